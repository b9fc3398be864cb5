-- One division on the way to the row of a matrix: quotient and remainder are the truncating ones, and what is left of the matrix stays as small.
use Rattle.std.proofs.Common.{◌≡◌, ℕ, zero, suc, ◌+◌, ◌-◌, ◌*◌, ◌<◌, ◌≤◌, cond, List, ℤ, pos, negsuc, ◌+ℤ◌, ◌-ℤ◌, ◌*ℤ◌, neg_ℤ, nat_abs, sym, refl, ap, ◌∙◌, subst, le_refl, mul-le-mul, arith, eq-eqb, ne_eqb}
use native.Mathlib.Decide.{dec_le}
use lib.Signed.{quot_z, rem_z}
use borrow.Author.Differences.{ints}
use Rattle.numbers.specs.Division.{Quotient, SignOf}
use Rattle.numbers.proofs.Divided.{divided}
use Rattle.numbers.proofs.Ring.{solve, ◌⊕◌, ◌⊗◌, ◌⊝◌, ◌≐◌, con}
use Rattle.modular.specs.declared.letter.Letter.TheVariants.{S}
use Rattle.modular.specs.Matrix.{M2, det}
use Rattle.modular.proofs.Reaching.{left}
use Rattle.table.specs.declared.link.Link.{Link}
use Rattle.table.specs.Links.{next}
use Rattle.table.specs.Placing.{steps_t, upper, rest, placed_in}

abs_neg : (n : ℕ) → nat_abs (neg_ℤ (pos n)) ≡ n
abs_neg zero = refl
abs_neg (suc n) = refl

abs_times : (a b : ℤ) → nat_abs (a *ℤ b) ≡ nat_abs a * nat_abs b
abs_times (pos m) (pos n) = refl
abs_times (pos m) (negsuc n) = abs_neg (m * suc n)
abs_times (negsuc m) (pos n) = abs_neg (suc m * n)
abs_times (negsuc m) (negsuc n) = refl

-- a multiple of n that is below n is 0 times n
no_multiple : (k n : ℕ) → k * n < n → k ≡ 0
no_multiple zero n h = refl
no_multiple (suc k) n h = absurd (omega arith)

-- two remainders of a by c lie closer together than c is far from 0
remainders_near : (a c r s : ℤ) → nat_abs r < nat_abs c → nat_abs s < nat_abs c → SignOf a r → SignOf a s → nat_abs (s -ℤ r) < nat_abs c
remainders_near (pos m) c r s h k p q = omega (arith, ints)
remainders_near (negsuc m) c r s h k p q = omega (arith, ints)

-- two divisions of a by c differ by as many times c as their quotients do
quotients_apart : (c q r p s : ℤ) → q *ℤ c +ℤ r ≡ p *ℤ c +ℤ s → (q -ℤ p) *ℤ c ≡ s -ℤ r
quotients_apart c q r p s e =
    solve 4 (λ c q r p. (q ⊝ p) ⊗ c ≐ (q ⊗ c ⊕ r) ⊝ (p ⊗ c ⊕ r)) tt c q r p ∙ ap (λ z. z -ℤ (p *ℤ c +ℤ r)) e
    ∙ solve 4 (λ c r p s. (p ⊗ c ⊕ s) ⊝ (p ⊗ c ⊕ r) ≐ s ⊝ r) tt c r p s

-- quotient and remainder are determined
one_quotient : (a c q r p s : ℤ) → Quotient a c q r → Quotient a c p s → (q ≡ p) × (r ≡ s)
one_quotient a c q r p s u v =
    let apart = quotients_apart c q r p s (sym u.whole ∙ v.whole) in
    let near = remainders_near a c r s u.small v.small u.sign v.sign in
    let none = no_multiple (nat_abs (q -ℤ p)) (nat_abs c) (subst (λ n. n < nat_abs c) (sym (ap nat_abs apart) ∙ abs_times (q -ℤ p) c) near) in
    let one : q ≡ p = omega (arith, ints) in
    let same = sym apart ∙ ap (λ z. (z -ℤ p) *ℤ c) one ∙ solve 2 (λ p c. (p ⊝ p) ⊗ c ≐ con (pos 0)) tt p c in
    (one, omega (arith, ints))

-- what divides as the definition says is the machine's quotient and remainder
pub quotient_is : (a c q r : ℤ) → Quotient a c q r → (q ≡ quot_z a c) × (r ≡ rem_z a c)
quotient_is a c q r u = one_quotient a c q r (quot_z a c) (rem_z a c) u (divided a c (λ e. omega (arith, u.small, ap nat_abs e)))

-- no entry is beyond n either side of 0
pub record Small (n : ℕ) (x : M2) : Type 0 where
  pub a : nat_abs x.a ≤ n
  pub b : nat_abs x.b ≤ n
  pub c : nat_abs x.c ≤ n
  pub d : nat_abs x.d ≤ n

bounded : (n c d e r : ℕ) → 0 < n → d ≤ n → r < c → c * e ≤ 1 + r * d → e ≤ n
bounded n c d e r z h l k = elim (dec_le e n) [
  | yes y ↦ y
  | no y ↦
      let lower : (r + 1) * (n + 1) ≤ c * e = mul-le-mul (omega arith) (omega arith) in
      let upper : r * d ≤ r * n = mul-le-mul (le_refl r) h in
      absurd (omega arith)
]

-- what a division leaves of a matrix of determinant 1
pub left_small : (n : ℕ) (x : M2) (q r : ℤ) → 0 < n → Small n x → det x ≡ pos 1 → x.a ≡ q *ℤ x.c +ℤ r → nat_abs r < nat_abs x.c → Small n (left x q r)
left_small n x q r z h o e l = record {
  a = h.c;
  b = h.d;
  c = omega (arith, ints, h.c);
  d = bounded n (nat_abs x.c) (nat_abs x.d) (nat_abs (q *ℤ x.d -ℤ x.b)) (nat_abs r) z h.d l
      (subst (λ m. m ≤ 1 + nat_abs r * nat_abs x.d) (sym (ap nat_abs column) ∙ abs_times x.c (q *ℤ x.d -ℤ x.b))
      (subst (λ m. nat_abs (pos 1 -ℤ r *ℤ x.d) ≤ 1 + m) (abs_times r x.d) (one_less (r *ℤ x.d))));
}
  where
    column : x.c *ℤ (q *ℤ x.d -ℤ x.b) ≡ pos 1 -ℤ r *ℤ x.d
    column =
        solve 5 (λ b c d q r. c ⊗ (q ⊗ d ⊝ b) ≐ (q ⊗ c ⊕ r) ⊗ d ⊝ b ⊗ c ⊝ r ⊗ d) tt x.b x.c x.d q r
        ∙ ap (λ a. a *ℤ x.d -ℤ x.b *ℤ x.c -ℤ r *ℤ x.d) (sym e) ∙ ap (λ y. y -ℤ r *ℤ x.d) o

    one_less : (y : ℤ) → nat_abs (pos 1 -ℤ y) ≤ 1 + nat_abs y
    one_less y = omega (arith, ints)

-- more divisions than |c| change nothing
module _ (links : List Link) where
  abbrev after : M2 → ℕ → ℕ
  after x r = next links S (steps_t links (quot_z x.a x.c) r)

  placed_flat : (n : ℕ) (x : M2) (r : ℕ) → nat_abs x.c ≡ 0 → placed_in links n x r ≡ upper links x r
  placed_flat zero x r e = refl
  placed_flat (suc n) x r e = ap (λ b. cond b (upper links x r) (placed_in links n (rest x) (after x r))) (eq-eqb (nat_abs x.c) 0 e)

  pub placed_on : (n : ℕ) (x : M2) (r : ℕ) → (nat_abs x.c ≡ 0 → ⊥) → placed_in links (suc n) x r ≡ placed_in links n (rest x) (after x r)
  placed_on n x r e = ap (λ b. cond b (upper links x r) (placed_in links n (rest x) (after x r))) (ne_eqb (nat_abs x.c) 0 e)

  rest_lower : (n : ℕ) (x : M2) → (nat_abs x.c ≡ 0 → ⊥) → nat_abs x.c ≤ suc n → nat_abs (rest x).c ≤ n
  rest_lower n x e h = omega (arith, ints, (divided x.a x.c (λ c. e (ap nat_abs c))).small)

  pub placed_enough : (n m : ℕ) (x : M2) (r : ℕ) → nat_abs x.c ≤ n → nat_abs x.c ≤ m → placed_in links n x r ≡ placed_in links m x r
  placed_enough zero m x r h k = sym (placed_flat m x r (omega arith))
  placed_enough (suc n) zero x r h k = placed_flat (suc n) x r (omega arith)
  placed_enough (suc n) (suc m) x r h k = elim (dec_le (nat_abs x.c) 0) [
    | yes z ↦ placed_flat (suc n) x r (omega arith) ∙ sym (placed_flat (suc m) x r (omega arith))
    | no z ↦
        let e : nat_abs x.c ≡ 0 → ⊥ = λ e. z (omega arith) in
        placed_on n x r e ∙ placed_enough n m (rest x) (after x r) (rest_lower n x e h) (rest_lower m x e k) ∙ sym (placed_on m x r e)
  ]

  -- so one division more leads on to the same row
  pub placed_step : (x : M2) (q r : ℤ) (p p' : ℕ) → Quotient x.a x.c q r → p' ≡ next links S (steps_t links q p)
      → placed_in links (nat_abs (neg_ℤ r)) (left x q r) p' ≡ placed_in links (nat_abs x.c) x p
  placed_step x q r p p' u e =
      let s = quotient_is x.a x.c q r u in
      let apart : nat_abs x.c ≡ 0 → ⊥ = λ z. omega (arith, u.small) in
      let k = nat_abs x.c - 1 in
      let more : suc k ≡ nat_abs x.c = omega (arith, u.small) in
      (λ i. placed_in links (nat_abs (neg_ℤ (s.1 i))) (left x (s.0 i) (s.1 i)) ((e ∙ ap (λ z. next links S (steps_t links z p)) s.0) i))
      ∙ placed_enough (nat_abs (rest x).c) k (rest x) (after x p) (le_refl (nat_abs (rest x).c)) (rest_lower k x apart (omega arith))
      ∙ sym (placed_on k x p apart) ∙ ap (λ n. placed_in links n x p) more
