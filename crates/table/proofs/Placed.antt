-- The row at which a matrix is placed is the one to which its words lead.
use Rattle.std.proofs.Common.{◌≡◌, ℕ, zero, suc, ◌+◌, ◌*◌, ◌/◌, ◌%◌, ◌<◌, ◌≤◌, cond, List, ◌∷◌, ◌++◌, length, ℤ, pos, negsuc, ◌+ℤ◌, ◌-ℤ◌, ◌*ℤ◌, neg_ℤ, nat_abs, sym, refl, ap, ◌∙◌, subst, inl, inr, le_refl, mod-lt, div-add-mod', arith, eq-eqb, ne_eqb}
use native.Mathlib.Decide.{dec_le}
use lib.Signed.{quot_z, rem_z, non_neg}
use borrow.Author.Differences.{ints}
use Rattle.numbers.proofs.Divided.{divided}
use Rattle.numbers.proofs.Ring.{solve, ◌⊗◌, ◌⊝◌, ◌≐◌, con}
use Rattle.numbers.specs.Residues.{residue}
use Rattle.modular.specs.declared.letter.Letter.{Letter}
use Rattle.modular.specs.declared.letter.Letter.TheVariants.{T, S}
use Rattle.modular.specs.Actions.{lead}
use Rattle.modular.specs.Matrix.{M2, det, ◌·◌}
use Rattle.modular.specs.Words.{matrix, of_letter}
use Rattle.modular.proofs.Members.{through_matrix}
use Rattle.modular.proofs.Products.{same, matrix_append}
use Rattle.modular.proofs.Reaching.{shift, shift_sum, power, power_is, before_power, units, turned_is, left_is, left_det}
use Rattle.modular.proofs.Through.{lead_append}
use Rattle.table.specs.declared.link.Link.{Link}
use Rattle.table.specs.Links.{next}
use Rattle.table.specs.Placing.{steps_t, upper, rest, placed_in, placed}
use Rattle.table.specs.Soundness.{Sound}
use Rattle.table.specs.Widths.{times, width}
use Rattle.table.proofs.Cycles.{times_add, times_round, width_is}
use Rattle.table.proofs.SoundRows.{links_laws, lead_row}

module _ (links : List Link) (k : Sound links) where
  abbrev t : ℕ → ℕ
  t = next links T

  abbrev to : List Letter → ℕ → ℕ
  to w r = lead (next links T) (next links S) w r

  -- x letters T are x steps
  to_times : (x r : ℕ) → to (power (pos x)) r ≡ times x t r
  to_times zero r = refl
  to_times (suc x) r = to_times x (t r) ∙ sym (times_add t x 1 r) ∙ (let z : x + 1 ≡ suc x = omega arith in ap (λ n. times n t r) z)

  -- T to a power, by the remainder modulo the width
  steps_word : (b : ℤ) (r : ℕ) → r < length links → to (power b) r ≡ steps_t links b r
  steps_word (pos x) r h =
      let w = width links r in
      let z : x ≡ x % w + x / w * w = sym (div-add-mod' x w) ∙ omega arith in
      to_times x r ∙ ap (λ n. times n t r) z ∙ times_add t (x % w) (x / w * w) r ∙ ap (times (x % w) t) (times_round t w r (width_is links k r h).returns (x / w))
  steps_word (negsuc x) r h =
      let w = width links r in
      let i = width_is links k r h in
      let m = (x / w + 1) * w in
      let p = residue w (negsuc x) in
      let small = mod-lt x i.some in
      let whole = div-add-mod' x w in
      let sum : pos m +ℤ negsuc x ≡ pos p = omega (arith, ints) in
      let one = matrix_append (power (pos m)) (power (negsuc x)) ∙ (λ j. power_is (pos m) j · power_is (negsuc x) j) ∙ shift_sum (pos m) (negsuc x) ∙ ap shift sum ∙ sym (power_is (pos p)) in
      ap (to (power (negsuc x))) (sym (to_times m r ∙ times_round t w r i.returns (x / w + 1)))
      ∙ sym (lead_append (next links T) (next links S) (power (pos m)) (power (negsuc x)) r)
      ∙ through_matrix (links_laws links k) r h (power (pos m) ++ power (negsuc x)) (power (pos p)) one
      ∙ to_times p r

  abbrev Leads : M2 → ℕ → ℕ → Type 0
  Leads x r q = (w : List Letter) × (matrix w ≡ x) × (to w r ≡ q)

  upper_word : (x : M2) (r : ℕ) → r < length links → x.c ≡ pos 0 → det x ≡ pos 1 → Leads x r (upper links x r)
  upper_word x r h z e = elim (units x.a x.d one) [
    | inl p ↦ (
      power x.b,
      power_is x.b ∙ same (shift x.b) x (sym p.0) refl (sym z) (sym p.1),
      steps_word x.b r h ∙ sym (ap (λ a. cond (non_neg a) (steps_t links x.b r) (steps_t links (neg_ℤ x.b) (next links S (next links S r)))) p.0),
    )
    | inr p ↦ (
      S ∷ S ∷ power (neg_ℤ x.b),
      turned_is x.b ∙ same (record { a = negsuc 0; b = x.b; c = pos 0; d = negsuc 0 }) x (sym p.0) refl (sym z) (sym p.1),
      steps_word (neg_ℤ x.b) (next links S (next links S r)) (k.below S (next links S r) (k.below S r h))
          ∙ sym (ap (λ a. cond (non_neg a) (steps_t links x.b r) (steps_t links (neg_ℤ x.b) (next links S (next links S r)))) p.0),
    )
  ]
    where
      one : x.a *ℤ x.d ≡ pos 1
      one = solve 2 (λ p b. p ≐ p ⊝ b ⊗ con (pos 0)) tt (x.a *ℤ x.d) x.b ∙ ap (λ c. x.a *ℤ x.d -ℤ x.b *ℤ c) (sym z) ∙ e

  -- by recursion on a bound of |c|
  placed_word : (n : ℕ) (x : M2) (r : ℕ) → nat_abs x.c ≤ n → det x ≡ pos 1 → r < length links → Leads x r (placed_in links n x r)
  placed_word zero x r h e l = upper_word x r l (omega (arith, ints)) e
  placed_word (suc n) x r h e l = elim (dec_le (nat_abs x.c) 0) [
    | yes z ↦ subst (Leads x r) (sym (ap (λ b. cond b (upper links x r) (placed_in links n (rest x) (next links S (steps_t links (quot_z x.a x.c) r)))) (eq-eqb (nat_abs x.c) 0 (omega arith))))
        (upper_word x r l (omega (arith, ints)) e)
    | no z ↦
        let q = quot_z x.a x.c in
        let m = rem_z x.a x.c in
        let d = divided x.a x.c (λ c. z (omega (arith, ints))) in
        let s = steps_word q r l in
        let below = subst (λ p. p < length links) s (lead_row links k (power q) r l) in
        let w = placed_word n (rest x) (next links S (steps_t links q r)) (omega (arith, ints, d.small)) (left_det x q m d.whole e) (k.below S (steps_t links q r) below) in
        subst (Leads x r) (sym (ap (λ b. cond b (upper links x r) (placed_in links n (rest x) (next links S (steps_t links q r)))) (ne_eqb (nat_abs x.c) 0 (λ c. z (omega arith))))) (
          power q ++ S ∷ w.0,
          before_power q (S ∷ w.0) ∙ ap (λ y. shift q · (of_letter S · y)) w.1 ∙ left_is x q m d.whole,
          lead_append (next links T) (next links S) (power q) (S ∷ w.0) r ∙ ap (λ p. to w.0 (next links S p)) s ∙ w.2,
        )
  ]

  -- every word of x leads row 0 to the row at which x is placed
  pub place_is : (x : M2) → det x ≡ pos 1 → (w : List Letter) → matrix w ≡ x → to w 0 ≡ placed links x
  place_is x e w f =
      let p = placed_word (nat_abs x.c) x 0 (le_refl (nat_abs x.c)) e k.some in
      through_matrix (links_laws links k) 0 k.some w p.0 (f ∙ sym p.1) ∙ p.2
