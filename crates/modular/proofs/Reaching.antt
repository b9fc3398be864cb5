-- Every integer matrix of determinant 1 has a word.
use Rattle.std.proofs.Common.{◌≡◌, ℕ, zero, suc, ◌*◌, ◌≤◌, ◌⊎◌, List, [], ◌∷◌, ◌++◌, ℤ, pos, negsuc, ◌+ℤ◌, ◌-ℤ◌, ◌*ℤ◌, neg_ℤ, nat_abs, sym, refl, ap, ◌∙◌, inl, inr, le_refl, arith}
use native.Mathlib.Decide.{dec_le}
use lib.IntN.{neg_ℤ-neg_ℤ}
use lib.Signed.{quot_z, rem_z}
use borrow.Author.Differences.{ints, up}
use Rattle.numbers.proofs.Divided.{divided}
use Rattle.numbers.proofs.Ring.{solve, ◌⊕◌, ◌⊗◌, ◌⊝◌, ⊖◌, ◌≐◌, con}
use Rattle.modular.specs.declared.letter.Letter.{Letter}
use Rattle.modular.specs.declared.letter.Letter.TheVariants.{T, S}
use Rattle.modular.specs.Inverses.{back_t}
use Rattle.modular.specs.Matrix.{M2, det, ◌·◌}
use Rattle.modular.specs.Words.{of_letter, matrix}
use Rattle.modular.proofs.Products.{same, one_left, zero_left, matrix_append}

-- the matrix of T^k
abbrev pub shift : ℤ → M2
shift k = record { a = pos 1; b = k; c = pos 0; d = pos 1 }

one_and : (q x y : ℤ) → pos 1 *ℤ x +ℤ q *ℤ y ≡ x +ℤ q *ℤ y
one_and = solve 3 (λ q x y. con (pos 1) ⊗ x ⊕ q ⊗ y ≐ x ⊕ q ⊗ y) tt

minus_second : (x y : ℤ) → pos 0 *ℤ x +ℤ negsuc 0 *ℤ y ≡ neg_ℤ y
minus_second = solve 2 (λ x y. con (pos 0) ⊗ x ⊕ con (negsuc 0) ⊗ y ≐ ⊖ y) tt

-- T^q on the left adds q times the second row to the first
shift_times : (q : ℤ) (m : M2) → shift q · m ≡ record { a = m.a +ℤ q *ℤ m.c; b = m.b +ℤ q *ℤ m.d; c = m.c; d = m.d }
shift_times q m = same (shift q · m) (record { a = m.a +ℤ q *ℤ m.c; b = m.b +ℤ q *ℤ m.d; c = m.c; d = m.d })
    (one_and q m.a m.c) (one_and q m.b m.d) (zero_left m.a m.c) (zero_left m.b m.d)

-- S on the left swaps the rows and turns the sign of the new first
s_times : (m : M2) → of_letter S · m ≡ record { a = neg_ℤ m.c; b = neg_ℤ m.d; c = m.a; d = m.b }
s_times m = same (of_letter S · m) (record { a = neg_ℤ m.c; b = neg_ℤ m.d; c = m.a; d = m.b })
    (minus_second m.a m.c) (minus_second m.b m.d) (one_left m.a m.c) (one_left m.b m.d)

pub shift_sum : (j k : ℤ) → shift j · shift k ≡ shift (j +ℤ k)
shift_sum j k = shift_times j (shift k) ∙ same (record { a = pos 1 +ℤ j *ℤ pos 0; b = k +ℤ j *ℤ pos 1; c = pos 0; d = pos 1 }) (shift (j +ℤ k))
    (solve 1 (λ j. con (pos 1) ⊕ j ⊗ con (pos 0) ≐ con (pos 1)) tt j)
    (solve 2 (λ j k. k ⊕ j ⊗ con (pos 1) ≐ j ⊕ k) tt j k) refl refl

-- a word of T^k
abbrev pub power : ℤ → List Letter
power (pos zero) = []
power (pos (suc n)) = T ∷ power (pos n)
power (negsuc zero) = back_t
power (negsuc (suc n)) = back_t ++ power (negsuc n)

pub power_is : (k : ℤ) → matrix (power k) ≡ shift k
power_is (pos zero) = refl
power_is (pos (suc n)) = ap (λ m. of_letter T · m) (power_is (pos n)) ∙ shift_sum (pos 1) (pos n) ∙ ap shift (omega (arith, ints))
power_is (negsuc zero) = refl
power_is (negsuc (suc n)) =
    matrix_append back_t (power (negsuc n)) ∙ ap (λ m. shift (negsuc 0) · m) (power_is (negsuc n))
    ∙ shift_sum (negsuc 0) (negsuc n) ∙ ap shift (omega (arith, ints))

-- a word of M
abbrev WordOf : M2 → Type 0
WordOf M = (w : List Letter) × (matrix w ≡ M)

-- T^q before a word
pub before_power : (q : ℤ) (w : List Letter) → matrix (power q ++ w) ≡ shift q · matrix w
before_power q w = matrix_append (power q) w ∙ ap (λ m. m · matrix w) (power_is q)

product_one : (m n : ℕ) → m * n ≡ 1 → (m ≡ 1) × (n ≡ 1)
product_one zero n e = absurd (omega arith)
product_one (suc zero) n e = (refl, omega arith)
product_one (suc (suc m)) zero e = absurd (omega arith)
product_one (suc (suc m)) (suc n) e = absurd (omega arith)

-- two integers with product 1 are both 1 or both −1
pub units : (a d : ℤ) → a *ℤ d ≡ pos 1 → ((a ≡ pos 1) × (d ≡ pos 1)) ⊎ ((a ≡ negsuc 0) × (d ≡ negsuc 0))
units (pos m) (pos n) e = let p = product_one m n (ap up e) in inl (ap pos p.0, ap pos p.1)
units (pos m) (negsuc n) e = absurd (omega (arith, ints, e))
units (negsuc m) (pos n) e = absurd (omega (arith, ints, e))
units (negsuc m) (negsuc n) e = let p = product_one (suc m) (suc n) (ap up e) in inr (ap negsuc (omega (arith, p.0)), ap negsuc (omega (arith, p.1)))

-- −T^(−b)
abbrev pub minus_shift : ℤ → M2
minus_shift b = record { a = negsuc 0; b = b; c = pos 0; d = negsuc 0 }

pub turned_is : (b : ℤ) → matrix (S ∷ S ∷ power (neg_ℤ b)) ≡ minus_shift b
turned_is b = ap (λ m. of_letter S · (of_letter S · m)) (power_is (neg_ℤ b)) ∙ ap (λ m. of_letter S · m) (s_times (shift (neg_ℤ b)))
    ∙ s_times (record { a = pos 0; b = negsuc 0; c = pos 1; d = neg_ℤ b }) ∙ (λ i. minus_shift (neg_ℤ-neg_ℤ b i))

-- where c is 0, the matrix is T^b or −T^(−b)
flat : (M : M2) → M.c ≡ pos 0 → det M ≡ pos 1 → WordOf M
flat M z e = elim (units M.a M.d one) [
  | inl p ↦ (power M.b, power_is M.b ∙ same (shift M.b) M (sym p.0) refl (sym z) (sym p.1))
  | inr p ↦ (S ∷ S ∷ power (neg_ℤ M.b), turned_is M.b ∙ same (minus_shift M.b) M (sym p.0) refl (sym z) (sym p.1))
]
  where
    one : M.a *ℤ M.d ≡ pos 1
    one = solve 2 (λ p b. p ≐ p ⊝ b ⊗ con (pos 0)) tt (M.a *ℤ M.d) M.b ∙ ap (λ c. M.a *ℤ M.d -ℤ M.b *ℤ c) (sym z) ∙ e

-- what is left of M when T^q and S are taken off its left
abbrev pub left : M2 → ℤ → ℤ → M2
left M q r = record { a = M.c; b = M.d; c = neg_ℤ r; d = q *ℤ M.d -ℤ M.b }

pub left_is : (M : M2) (q r : ℤ) → M.a ≡ q *ℤ M.c +ℤ r → shift q · (of_letter S · left M q r) ≡ M
left_is M q r e =
    ap (λ m. shift q · m) (s_times (left M q r)) ∙ shift_times q (record { a = neg_ℤ (neg_ℤ r); b = neg_ℤ (q *ℤ M.d -ℤ M.b); c = M.c; d = M.d })
    ∙ same (record { a = neg_ℤ (neg_ℤ r) +ℤ q *ℤ M.c; b = neg_ℤ (q *ℤ M.d -ℤ M.b) +ℤ q *ℤ M.d; c = M.c; d = M.d }) M
    (solve 2 (λ r p. ⊖ (⊖ r) ⊕ p ≐ p ⊕ r) tt r (q *ℤ M.c) ∙ sym e)
    (solve 2 (λ p b. ⊖ (p ⊝ b) ⊕ p ≐ b) tt (q *ℤ M.d) M.b) refl refl

pub left_det : (M : M2) (q r : ℤ) → M.a ≡ q *ℤ M.c +ℤ r → det M ≡ pos 1 → det (left M q r) ≡ pos 1
left_det M q r e o =
    solve 5 (λ b c d q r. c ⊗ (q ⊗ d ⊝ b) ⊝ d ⊗ ⊖ r ≐ (q ⊗ c ⊕ r) ⊗ d ⊝ b ⊗ c) tt M.b M.c M.d q r
    ∙ ap (λ a. a *ℤ M.d -ℤ M.b *ℤ M.c) (sym e) ∙ o

-- a word of what is left makes one of M
prepend : (M : M2) (q r : ℤ) → M.a ≡ q *ℤ M.c +ℤ r → WordOf (left M q r) → WordOf M
prepend M q r e w =
    (power q ++ S ∷ w.0, before_power q (S ∷ w.0) ∙ ap (λ m. shift q · (of_letter S · m)) w.1 ∙ left_is M q r e)

-- by recursion on a bound of |c|
reach : (n : ℕ) (M : M2) → nat_abs M.c ≤ n → det M ≡ pos 1 → WordOf M
reach zero M h e = flat M (omega (arith, ints)) e
reach (suc n) M h e = elim (dec_le (nat_abs M.c) 0) [
  | yes z ↦ flat M (omega (arith, ints)) e
  | no z ↦
      let q = quot_z M.a M.c in
      let r = rem_z M.a M.c in
      let d = divided M.a M.c (λ c. z (omega (arith, ints))) in
      prepend M q r d.whole (reach n (left M q r) (omega (arith, ints, d.small)) (left_det M q r d.whole e))
]

-- every matrix of determinant 1 has a word
pub has_word : (M : M2) → det M ≡ pos 1 → (w : List Letter) × (matrix w ≡ M)
has_word M e = reach (nat_abs M.c) M (le_refl (nat_abs M.c)) e
