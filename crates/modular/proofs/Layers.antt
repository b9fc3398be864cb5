-- The members of a pair and of a mirror.
use Rattle.std.proofs.Common.{◌≡◌, Bool, ◌↔◌, List, [], ◌∷◌, ◌++◌, sym, refl, ap, ◌∙◌}
use lib.IntN.{neg_ℤ-neg_ℤ}
use Rattle.numbers.proofs.Ring.{solve, ◌⊕◌, ◌⊗◌, ⊖◌, ◌≐◌}
use Rattle.modular.specs.declared.action.Action.{Ghosts}
use Rattle.modular.specs.declared.letter.Letter.{Letter}
use Rattle.modular.specs.declared.letter.Letter.TheVariants.{T, S}
use Rattle.modular.specs.declared.pair.Both.{Both}
use Rattle.modular.specs.declared.pair.Pair.{Pair}
use Rattle.modular.specs.Acting.{MemberOf, MembersExactly}
use Rattle.modular.specs.Actions.{Laws, Member, lead}
use Rattle.modular.specs.Inverses.{back_t, back_s}
use Rattle.modular.specs.Matrix.{M2, ◌·◌}
use Rattle.modular.specs.Mirror.{mirrored}
use Rattle.modular.specs.Pair.{pair_of}
use Rattle.modular.specs.PairLaws.{both}
use Rattle.modular.specs.Words.{of_letter, matrix}
use Rattle.modular.proofs.Members.{through_matrix}
use Rattle.modular.proofs.Products.{same, matrix_append}

module _ {A B P Q : Type 0} (G : Ghosts A P) (H : Ghosts B Q) (a : Pair A B) where
  -- a word leads each side by itself
  lead_both : (w : List Letter) (p : Both P Q) → lead ((pair_of G H).step_t a) ((pair_of G H).step_s a) w p
      ≡ both (lead (G.step_t a.first) (G.step_s a.first) w p.first) (lead (H.step_t a.second) (H.step_s a.second) w p.second)
  lead_both [] p = refl
  lead_both (T ∷ w) p = lead_both w ((pair_of G H).step_t a p)
  lead_both (S ∷ w) p = lead_both w ((pair_of G H).step_s a p)

  pub pair_members : MembersExactly (pair_of G H) a (λ M. MemberOf G a.first M × MemberOf H a.second M)
  pair_members M = (
    λ m. let e = sym (lead_both m.0 ((pair_of G H).start a)) ∙ m.2 in
        ((m.0, m.1, ap (λ p. p.first) e), (m.0, m.1, ap (λ p. p.second) e)),
    λ m. let other = through_matrix (H.laws a.second) (H.start a.second) (H.laws a.second).first_point m.0.0 m.1.0 (m.0.1 ∙ sym m.1.1) in
        (m.0.0, m.0.1, lead_both m.0.0 ((pair_of G H).start a) ∙ (λ i. both (m.0.2 i) ((other ∙ m.1.2) i))),
  )

-- the word that the mirror of w steps below
abbrev reflected : List Letter → List Letter
reflected [] = []
reflected (T ∷ w) = back_t ++ reflected w
reflected (S ∷ w) = back_s ++ reflected w

lead_reflected : {R : Type 0} (t s : R → R) (w : List Letter) (p : R) → lead (lead t s back_t) (lead t s back_s) w p ≡ lead t s (reflected w) p
lead_reflected t s [] p = refl
lead_reflected t s (T ∷ w) p = lead_reflected t s w (lead t s back_t p)
lead_reflected t s (S ∷ w) p = lead_reflected t s w (lead t s back_s p)

mirrored_product : (x y : M2) → mirrored (x · y) ≡ mirrored x · mirrored y
mirrored_product x y = same (mirrored (x · y)) (mirrored x · mirrored y)
    (solve 4 (λ a b e g. a ⊗ e ⊕ b ⊗ g ≐ a ⊗ e ⊕ ⊖ b ⊗ ⊖ g) tt x.a x.b y.a y.c)
    (solve 4 (λ a b f h. ⊖ (a ⊗ f ⊕ b ⊗ h) ≐ a ⊗ ⊖ f ⊕ ⊖ b ⊗ h) tt x.a x.b y.b y.d)
    (solve 4 (λ c d e g. ⊖ (c ⊗ e ⊕ d ⊗ g) ≐ ⊖ c ⊗ e ⊕ d ⊗ ⊖ g) tt x.c x.d y.a y.c)
    (solve 4 (λ c d f h. c ⊗ f ⊕ d ⊗ h ≐ ⊖ c ⊗ ⊖ f ⊕ d ⊗ h) tt x.c x.d y.b y.d)

mirrored_twice : (x : M2) → mirrored (mirrored x) ≡ x
mirrored_twice x = same (mirrored (mirrored x)) x refl (neg_ℤ-neg_ℤ x.b) (neg_ℤ-neg_ℤ x.c) refl

-- a reflected word has the mirrored matrix
matrix_reflected : (w : List Letter) → matrix (reflected w) ≡ mirrored (matrix w)
matrix_reflected [] = refl
matrix_reflected (T ∷ w) = matrix_append back_t (reflected w) ∙ ap (λ m. matrix back_t · m) (matrix_reflected w) ∙ sym (mirrored_product (of_letter T) (matrix w))
matrix_reflected (S ∷ w) = matrix_append back_s (reflected w) ∙ ap (λ m. matrix back_s · m) (matrix_reflected w) ∙ sym (mirrored_product (of_letter S) (matrix w))

module _ {R : Type 0} {Point : R → Type 0} {start : R} {t s : R → R} {agrees : R → R → Bool} (l : Laws Point start t s agrees) where
  reflected_twice : (w : List Letter) → lead t s (reflected (reflected w)) start ≡ lead t s w start
  reflected_twice w = through_matrix l start l.first_point (reflected (reflected w)) w
      (matrix_reflected (reflected w) ∙ ap mirrored (matrix_reflected w) ∙ mirrored_twice (matrix w))

  pub mirror_members : (M : M2) → Member start (lead t s back_t) (lead t s back_s) M ↔ Member start t s (mirrored M)
  mirror_members M = (
    λ m. (reflected m.0, matrix_reflected m.0 ∙ ap mirrored m.1, sym (lead_reflected t s m.0 start) ∙ m.2),
    λ m. (
      reflected m.0,
      matrix_reflected m.0 ∙ ap mirrored m.1 ∙ mirrored_twice M,
      lead_reflected t s (reflected m.0) start ∙ reflected_twice m.0 ∙ m.2,
    ),
  )
