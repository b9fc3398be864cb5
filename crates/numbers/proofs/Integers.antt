-- Ring laws of the integers.
use Rattle.std.proofs.Common.{◌≡◌, zero, suc, ◌*◌, ◌≢◌, ◌⊎◌, ℤ, pos, negsuc, ◌+ℤ◌, ◌-ℤ◌, ◌*ℤ◌, neg_ℤ, refl, ap, ◌∙◌, inl, inr, arith}
use lib.IntN.{*ℤ_comm}
use borrow.Author.Differences.{ints, up, down, sum_is_lem, product_is, neg_is, same_in, same_out}

pub mul_add : (a b c : ℤ) → a *ℤ (b +ℤ c) ≡ a *ℤ b +ℤ a *ℤ c
mul_add a b c =
    let u = ap (λ x. up a * x) (sum_is_lem b c) in
    let d = ap (λ x. down a * x) (sum_is_lem b c) in
    omega (arith, ints)

pub add_mul : (a b c : ℤ) → (a +ℤ b) *ℤ c ≡ a *ℤ c +ℤ b *ℤ c
add_mul a b c = *ℤ_comm (a +ℤ b) c ∙ mul_add c a b ∙ cc (*ℤ_comm c a, *ℤ_comm c b)

pub mul_assoc : (a b c : ℤ) → (a *ℤ b) *ℤ c ≡ a *ℤ (b *ℤ c)
mul_assoc a b c =
    let l = product_is a b in
    let r = product_is b c in
    let u = product_is (a *ℤ b) c in
    let v = product_is a (b *ℤ c) in
    same_in ((a *ℤ b) *ℤ c) (a *ℤ (b *ℤ c)) (rw (u.0, u.1, v.0, v.1, l.0, l.1, r.0, r.1) (omega arith))

pub neg_mul : (a b : ℤ) → neg_ℤ a *ℤ b ≡ neg_ℤ (a *ℤ b)
neg_mul a b =
    let p = product_is (neg_ℤ a) b in
    same_in (neg_ℤ a *ℤ b) (neg_ℤ (a *ℤ b)) (rw (p.0, p.1, (neg_is a).0, (neg_is a).1) (omega (arith, ints)))

pub mul_neg : (a b : ℤ) → a *ℤ neg_ℤ b ≡ neg_ℤ (a *ℤ b)
mul_neg a b = *ℤ_comm a (neg_ℤ b) ∙ neg_mul b a ∙ ap neg_ℤ (*ℤ_comm b a)

pub one_mul : (a : ℤ) → pos 1 *ℤ a ≡ a
one_mul a = omega (arith, ints)

pub mul_one : (a : ℤ) → a *ℤ pos 1 ≡ a
mul_one a = omega (arith, ints)

pub zero_mul : (a : ℤ) → pos 0 *ℤ a ≡ pos 0
zero_mul a = omega (arith, ints)

pub mul_zero : (a : ℤ) → a *ℤ pos 0 ≡ pos 0
mul_zero a = omega (arith, ints)

pub mul_sub : (a b c : ℤ) → a *ℤ (b -ℤ c) ≡ a *ℤ b -ℤ a *ℤ c
mul_sub a b c = mul_add a b (neg_ℤ c) ∙ ap (λ x. a *ℤ b +ℤ x) (mul_neg a c)

-- a product is zero only if a factor is
pub zero_product : (a b : ℤ) → a *ℤ b ≡ pos 0 → (a ≡ pos 0) ⊎ (b ≡ pos 0)
zero_product (pos zero) b e = inl refl
zero_product (pos (suc a)) (pos zero) e = inr refl
zero_product (pos (suc a)) (pos (suc b)) e = absurd (omega (arith, ints, ap up e))
zero_product (pos (suc a)) (negsuc b) e = absurd (omega (arith, ints, ap down e))
zero_product (negsuc a) (pos zero) e = inr refl
zero_product (negsuc a) (pos (suc b)) e = absurd (omega (arith, ints, ap down e))
zero_product (negsuc a) (negsuc b) e = absurd (omega (arith, ints, ap up e))

-- a factor other than zero may be cancelled
pub mul_cancel : (a b c : ℤ) → a ≢ pos 0 → a *ℤ b ≡ a *ℤ c → b ≡ c
mul_cancel a b c n e =
    elim (zero_product a (b -ℤ c) (mul_sub a b c ∙ differ)) [ inl z ↦ absurd (n z) | inr z ↦ omega (arith, ints, z) ]
  where
    differ : a *ℤ b -ℤ a *ℤ c ≡ pos 0
    differ = omega (arith, sum_is_lem (a *ℤ b) (neg_ℤ (a *ℤ c)), neg_is (a *ℤ c), same_out (a *ℤ b) (a *ℤ c) e, same_in)
