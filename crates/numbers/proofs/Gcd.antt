-- The greatest common divisor is what its name says, is a combination of the two numbers, and tells which numbers have an inverse modulo n.
use Rattle.std.proofs.Common.{◌≡◌, ℕ, zero, suc, ◌+◌, ◌*◌, ◌/◌, ◌%◌, ◌<◌, ◌≤◌, ℤ, pos, negsuc, ◌+ℤ◌, ◌-ℤ◌, ◌*ℤ◌, neg_ℤ, sym, refl, ap, ◌∙◌, le_refl, mod-lt, arith}
use native.Mathlib.Nat.{mod-add-div'}
use lib.IntN.{*ℤ_comm}
use borrow.Author.Differences.{ints, up}
use Rattle.numbers.specs.Gcd.{gcd, euclid}
use Rattle.numbers.specs.Residues.{Cong, residue}
use Rattle.numbers.proofs.Ring.{solve, ◌⊕◌, ◌⊗◌, ◌⊝◌, ⊖◌, ◌≐◌, con}
use Rattle.numbers.proofs.Congruence.{cong_refl, cong_sym, cong_trans, cong_mul, residue_below, residue_cong}

-- d divides a
pub record Divides (d a : ℕ) : Type 0 where
  pub quotient : ℕ
  pub exact : a ≡ quotient * d

divides_sum : {g b r : ℕ} (a q : ℕ) → Divides g b → Divides g r → r + q * b ≡ a → Divides g a
divides_sum {g} {b} a q u v e = record {
  quotient = v.quotient + q * u.quotient;
  exact = let w = ap (λ x. q * x) u.exact in omega arith;
}

euclid_divides : (f a b : ℕ) → b ≤ f → Divides (euclid f a b) a × Divides (euclid f a b) b
euclid_divides zero a b h = (record { quotient = 1; exact = omega arith }, record { quotient = 0; exact = omega arith })
euclid_divides (suc f) a zero h = (record { quotient = 1; exact = omega arith }, record { quotient = 0; exact = omega arith })
euclid_divides (suc f) a (suc b) h =
    let r : a % suc b < suc b = mod-lt a (omega arith) in
    let d = euclid_divides f (suc b) (a % suc b) (omega arith) in
    (divides_sum a (a / suc b) d.0 d.1 (mod-add-div' a (suc b)), d.0)

pub gcd_divides : (a b : ℕ) → Divides (gcd a b) a × Divides (gcd a b) b
gcd_divides a b = euclid_divides b a b (le_refl b)

euclid_bezout : (f a b : ℕ) → (x : ℤ) × (y : ℤ) × (pos (euclid f a b) ≡ x *ℤ pos a +ℤ y *ℤ pos b)
euclid_bezout zero a b = (pos 1, pos 0, solve 2 (λ a b. a ≐ con (pos 1) ⊗ a ⊕ con (pos 0) ⊗ b) tt (pos a) (pos b))
euclid_bezout (suc f) a zero = (pos 1, pos 0, solve 2 (λ a b. a ≐ con (pos 1) ⊗ a ⊕ con (pos 0) ⊗ b) tt (pos a) (pos 0))
euclid_bezout (suc f) a (suc b) =
    let h = euclid_bezout f (suc b) (a % suc b) in
    let q = pos (a / suc b) in (
      h.1,
      h.0 -ℤ h.1 *ℤ q,
      h.2 ∙ solve 5 (λ x y r q b. x ⊗ b ⊕ y ⊗ r ≐ y ⊗ (r ⊕ q ⊗ b) ⊕ (x ⊝ y ⊗ q) ⊗ b) tt h.0 h.1 (pos (a % suc b)) q (pos (suc b))
          ∙ ap (λ z. h.1 *ℤ pos z +ℤ (h.0 -ℤ h.1 *ℤ q) *ℤ pos (suc b)) (mod-add-div' a (suc b)),
    )

-- Bézout: the greatest common divisor is a combination of the two numbers
pub bezout : (a b : ℕ) → (x : ℤ) × (y : ℤ) × (pos (gcd a b) ≡ x *ℤ pos a +ℤ y *ℤ pos b)
bezout a b = euclid_bezout b a b

-- what divides two numbers divides each natural combination of them
divides_combination : {d a b : ℕ} (g : ℕ) (x y : ℤ) → Divides d a → Divides d b → pos g ≡ x *ℤ pos a +ℤ y *ℤ pos b → Divides d g
divides_combination {d} g x y u v e = from (x *ℤ pos u.quotient +ℤ y *ℤ pos v.quotient)
    (e ∙ cc (u.exact, v.exact) ∙ solve 5 (λ x y u v d. x ⊗ (u ⊗ d) ⊕ y ⊗ (v ⊗ d) ≐ (x ⊗ u ⊕ y ⊗ v) ⊗ d) tt x y (pos u.quotient) (pos v.quotient) (pos d))
  where
    from : (z : ℤ) → pos g ≡ z *ℤ pos d → Divides d g
    from (pos m) e = record { quotient = m; exact = ap up e }
    from (negsuc m) e = record { quotient = 0; exact = omega (arith, ints, e) }

pub gcd_greatest : (a b d : ℕ) → Divides d a → Divides d b → Divides d (gcd a b)
gcd_greatest a b d u v = let h = bezout a b in divides_combination (gcd a b) h.0 h.1 u v h.2

-- a number coprime to n has an inverse modulo n
pub coprime→inverse : (a n : ℕ) → 0 < n → gcd a n ≡ 1 → (b : ℕ) × (b < n) × Cong n (pos a *ℤ pos b) (pos 1)
coprime→inverse a n h e =
    let w = bezout a n in
    let c : Cong n (pos a *ℤ w.0) (pos 1) = record {
      factor = neg_ℤ w.1;
      apart = solve 4 (λ a n x y. a ⊗ x ≐ x ⊗ a ⊕ y ⊗ n ⊕ ⊖ y ⊗ n) tt (pos a) (pos n) w.0 w.1
          ∙ ap (λ z. z +ℤ neg_ℤ w.1 *ℤ pos n) (sym w.2 ∙ ap pos e);
    } in
    (residue n w.0, residue_below n w.0 h, cong_trans (cong_mul (cong_refl {x = pos a}) (cong_sym (residue_cong n w.0 h))) c)

only_one : (g q : ℕ) → 1 ≡ q * g → g ≡ 1
only_one zero q e = omega arith
only_one (suc zero) q e = refl
only_one (suc (suc g)) zero e = omega arith
only_one (suc (suc g)) (suc q) e = omega arith

-- and only such a number has one
pub inverse→coprime : (a n b : ℕ) → Cong n (pos a *ℤ pos b) (pos 1) → gcd a n ≡ 1
inverse→coprime a n b c = only_one (gcd a n) d.quotient d.exact
  where
    one : pos 1 ≡ pos b *ℤ pos a +ℤ neg_ℤ c.factor *ℤ pos n
    one = solve 2 (λ k n. con (pos 1) ≐ con (pos 1) ⊕ k ⊗ n ⊕ ⊖ k ⊗ n) tt c.factor (pos n)
        ∙ ap (λ z. z +ℤ neg_ℤ c.factor *ℤ pos n) (sym c.apart ∙ *ℤ_comm (pos a) (pos b))

    d : Divides (gcd a n) 1
    d = divides_combination 1 (pos b) (neg_ℤ c.factor) (gcd_divides a n).0 (gcd_divides a n).1 one
