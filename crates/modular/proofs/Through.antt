-- Words act through their matrices.
use Rattle.std.proofs.Common.{◌≡◌, List, [], ◌∷◌, ◌++◌, pos, ◌*ℤ◌, sym, refl, ap, ◌∙◌}
use Rattle.numbers.proofs.Ring.{solve, ◌⊕◌, ◌⊗◌, ◌⊝◌, ⊖◌, ◌≐◌}
use Rattle.modular.specs.declared.letter.Letter.{Letter}
use Rattle.modular.specs.declared.letter.Letter.TheVariants.{T, S}
use Rattle.modular.specs.Actions.{lead}
use Rattle.modular.specs.Matrix.{M2, det, identity, inverted, ◌·◌}
use Rattle.modular.specs.Words.{of_letter, matrix}
use Rattle.modular.proofs.Forms.{Moves, walk, lead_walk}
use Rattle.modular.proofs.Products.{matrix_append, inverted_undoes}
use Rattle.modular.proofs.Reaching.{has_word}
use Rattle.modular.proofs.Rows.{plain_of_identity}

pub det_product : (x y : M2) → det (x · y) ≡ det x *ℤ det y
det_product x y = solve 8 (λ a b c d e f g h.
    (a ⊗ e ⊕ b ⊗ g) ⊗ (c ⊗ f ⊕ d ⊗ h) ⊝ (a ⊗ f ⊕ b ⊗ h) ⊗ (c ⊗ e ⊕ d ⊗ g) ≐ (a ⊗ d ⊝ b ⊗ c) ⊗ (e ⊗ h ⊝ f ⊗ g)) tt
    x.a x.b x.c x.d y.a y.b y.c y.d

-- the matrix of a word has determinant 1
pub det_word : (w : List Letter) → det (matrix w) ≡ pos 1
det_word [] = refl
det_word (T ∷ w) = det_product (of_letter T) (matrix w) ∙ ap (λ d. pos 1 *ℤ d) (det_word w)
det_word (S ∷ w) = det_product (of_letter S) (matrix w) ∙ ap (λ d. pos 1 *ℤ d) (det_word w)

pub det_inverted : (x : M2) → det (inverted x) ≡ det x
det_inverted x = solve 4 (λ a b c d. d ⊗ a ⊝ ⊖ b ⊗ ⊖ c ≐ a ⊗ d ⊝ b ⊗ c) tt x.a x.b x.c x.d

-- a word of the inverse
pub undo : (w : List Letter) → (v : List Letter) × (matrix v ≡ inverted (matrix w))
undo w = has_word (inverted (matrix w)) (det_inverted (matrix w) ∙ det_word w)

module _ {R : Type 0} (t s : R → R) where
  pub lead_append : (u v : List Letter) (p : R) → lead t s (u ++ v) p ≡ lead t s v (lead t s u p)
  lead_append [] v p = refl
  lead_append (T ∷ u) v p = lead_append u v (t p)
  lead_append (S ∷ u) v p = lead_append u v (s p)

module _ {R : Type 0} {Point : R → Type 0} {t s : R → R} (l : Moves Point t s) where
  pub lead_point : (w : List Letter) (p : R) → Point p → Point (lead t s w p)
  lead_point [] p h = h
  lead_point (T ∷ w) p h = lead_point w (t p) (l.t_point p h)
  lead_point (S ∷ w) p h = lead_point w (s p) (l.s_point p h)

  -- a word of the identity leads each point back to itself
  pub lead_identity : (w : List Letter) (p : R) → Point p → matrix w ≡ identity → lead t s w p ≡ p
  lead_identity w p h e = lead_walk l w p h ∙ ap (λ f. walk t s f p) (plain_of_identity w e)

  -- two words with one matrix lead a point to one point
  pub same_matrix_leads : (u v : List Letter) (p : R) → Point p → matrix u ≡ matrix v → lead t s u p ≡ lead t s v p
  same_matrix_leads u v p h e =
      let b = undo v in
      let i = inverted_undoes (matrix v) (det_word v) in
      sym (lead_identity (b.0 ++ v) (lead t s u p) (lead_point u p h) (matrix_append b.0 v ∙ ap (λ m. m · matrix v) b.1 ∙ i.before))
      ∙ lead_append t s b.0 v (lead t s u p)
      ∙ ap (lead t s v) (sym (lead_append t s u b.0 p)
      ∙ lead_identity (u ++ b.0) p h (matrix_append u b.0 ∙ (λ k. e k · b.1 k) ∙ i.after))
