-- Members are a group, and any word of a matrix tells whether it is one.
use Rattle.std.proofs.Common.{◌≡◌, Bool, ◌↔◌, List, [], ◌++◌, pos, sym, refl, ap, ◌∙◌}
use Rattle.modular.specs.declared.letter.Letter.{Letter}
use Rattle.modular.specs.Actions.{Laws, lead, Member}
use Rattle.modular.specs.Matrix.{M2, det, identity, inverted, ◌·◌}
use Rattle.modular.specs.Words.{matrix}
use Rattle.modular.proofs.Forms.{moves}
use Rattle.modular.proofs.Products.{matrix_append, inverted_undoes}
use Rattle.modular.proofs.Through.{det_word, undo, lead_append, lead_identity, same_matrix_leads}

module _ {R : Type 0} {Point : R → Type 0} {start : R} {t s : R → R} {agrees : R → R → Bool} (l : Laws Point start t s agrees) where
  -- two words with one matrix lead a point to one point
  pub through_matrix : (p : R) → Point p → (u v : List Letter) → matrix u ≡ matrix v → lead t s u p ≡ lead t s v p
  through_matrix p h u v e = same_matrix_leads (moves l) u v p h e

  pub identity_member : Member start t s identity
  identity_member = ([], refl, refl)

  pub product_member : (M N : M2) → Member start t s M → Member start t s N → Member start t s (M · N)
  product_member M N m n = (
    m.0 ++ n.0,
    matrix_append m.0 n.0 ∙ (λ i. m.1 i · n.1 i),
    lead_append t s m.0 n.0 start ∙ ap (lead t s n.0) m.2 ∙ n.2,
  )

  pub inverse_member : (M : M2) → Member start t s M → (det M ≡ pos 1) × Member start t s (inverted M)
  inverse_member M m =
      let w = m.0 in
      let b = undo w in
      let back = lead_identity (moves l) (w ++ b.0) start l.first_point
      (matrix_append w b.0 ∙ ap (λ x. matrix w · x) b.1 ∙ (inverted_undoes (matrix w) (det_word w)).after) in (
        ap det (sym m.1) ∙ det_word w,
        (b.0, b.1 ∙ ap inverted m.1, ap (lead t s b.0) (sym m.2) ∙ sym (lead_append t s w b.0 start) ∙ back),
      )

  -- a word of M leads the start back exactly when M is a member
  pub any_word : (w : List Letter) → (lead t s w start ≡ start) ↔ Member start t s (matrix w)
  any_word w = (λ e. (w, refl, e), λ m. through_matrix start l.first_point w m.0 (sym m.1) ∙ m.2)
