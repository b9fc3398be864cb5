-- Rows are cosets.
use Rattle.std.proofs.Common.{◌≡◌, ◌<◌, List, [], ◌++◌, length, pos, sym, refl, ap, ◌∙◌, subst}
use Rattle.modular.specs.declared.letter.Letter.{Letter}
use Rattle.modular.specs.declared.letter.Letter.TheVariants.{T, S}
use Rattle.modular.specs.Actions.{lead, Member}
use Rattle.modular.specs.Matrix.{M2, det, inverted, ◌·◌}
use Rattle.modular.specs.Words.{matrix}
use Rattle.modular.proofs.Products.{matrix_append, product_assoc, identity_right, inverted_undoes}
use Rattle.modular.proofs.Reaching.{has_word}
use Rattle.modular.proofs.Through.{det_word, undo, lead_append}
use Rattle.table.specs.declared.link.Link.{Link}
use Rattle.table.specs.Acting.{word_of}
use Rattle.table.specs.Cosets.{CosetLaw}
use Rattle.table.specs.Finished.{row_of}
use Rattle.table.specs.Links.{next}
use Rattle.table.specs.Matrices.{MatrixLaw}
use Rattle.table.specs.Placing.{placed}
use Rattle.table.specs.Soundness.{Sound}
use Rattle.table.proofs.FinishedLaws.{sound_links_law}
use Rattle.table.proofs.SoundRows.{lead_row}

module _ {R : Type 0} (start : R) (t s : R → R) (links : List Link) (k : Sound links) (law : MatrixLaw start t s links) where
  -- where a word goes on from the row of another
  on : (u v : List Letter) → row_of links (u ++ v) ≡ lead (next links T) (next links S) v (row_of links u)
  on u v = lead_append (next links T) (next links S) u v 0

  -- a word of the inverse leads back
  back : (v w : List Letter) → matrix w ≡ inverted (matrix v) → row_of links (v ++ w) ≡ 0
  back v w e = law.through (v ++ w) [] (matrix_append v w ∙ ap (λ y. matrix v · y) e ∙ (inverted_undoes (matrix v) (det_word v)).after)

  -- two words lead to one row exactly when their quotient is a member
  one_row : (u v : List Letter) → (row_of links u ≡ row_of links v → Member start t s (matrix u · inverted (matrix v))) × (Member start t s (matrix u · inverted (matrix v)) → row_of links u ≡ row_of links v)
  one_row u v =
      let w = (undo v).0 in
      let e = (undo v).1 in
      let m : matrix (u ++ w) ≡ matrix u · inverted (matrix v) = matrix_append u w ∙ ap (λ y. matrix u · y) e in
      let whole : matrix ((u ++ w) ++ v) ≡ matrix u =
      matrix_append (u ++ w) v ∙ ap (λ y. y · matrix v) m ∙ product_assoc (matrix u) (inverted (matrix v)) (matrix v)
      ∙ ap (λ y. matrix u · y) (inverted_undoes (matrix v) (det_word v)).before ∙ identity_right (matrix u) in (
        λ h. subst (Member start t s) m ((law.members (u ++ w)).1 (on u w ∙ ap (lead (next links T) (next links S) w) h ∙ sym (on v w) ∙ back v w e)),
        λ h. sym (law.through ((u ++ w) ++ v) u whole) ∙ on (u ++ w) v ∙ ap (lead (next links T) (next links S) v) ((law.members (u ++ w)).0 (subst (Member start t s) (sym m) h)),
      )

  -- a matrix is placed at the row of its words
  at_word : (M : M2) (d : det M ≡ pos 1) → placed links M ≡ row_of links (has_word M d).0
  at_word M d = sym ((sound_links_law links k).places M d (has_word M d).0 (has_word M d).1)

  pub coset_law : CosetLaw start t s links
  coset_law = record {
    row = λ M d. subst (λ r. r < length links) (sym (at_word M d)) (lead_row links k (has_word M d).0 0 k.some);
    one = λ M N d e.
        let p = one_row (has_word M d).0 (has_word N e).0 in
        let q : matrix (has_word M d).0 · inverted (matrix (has_word N e).0) ≡ M · inverted N = λ i. (has_word M d).1 i · inverted ((has_word N e).1 i) in
        (λ h. subst (Member start t s) q (p.0 (sym (at_word M d) ∙ h ∙ at_word N e)), λ h. at_word M d ∙ p.1 (subst (Member start t s) (sym q) h) ∙ sym (at_word N e));
    each = λ r l.
        let w = (sound_links_law links k).words r l in
        (matrix (word_of links r), det_word (word_of links r), sym ((sound_links_law links k).places (matrix (word_of links r)) (det_word (word_of links r)) (word_of links r) refl) ∙ w.leads);
  }
