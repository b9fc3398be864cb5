-- The word of the row, and one letter more.
use Rattle.std.proofs.Common.{◌≡◌, true, [], ◌∷◌, ◌++◌, sym, ap, ◌∙◌}
use Rattle.std.proofs.lemmas.Bool.{and_parts, and_from}
use Rattle.modular.specs.Matrix.{entries, identity, rows, ◌·◌}
use Rattle.modular.specs.Words.{matrix, of_letter}
use Rattle.table.specs.Acting.{word_of}
use Rattle.table.specs.Questions.{prefixes, within}
use Rattle.table.proofs.Limits.{prefix_more, checked_as}
use Rattle.table.proofs.limit.Limit.walked_matrix.Goals as goal

pub returns-in_err-row_matrix : goal.returns-in_err-row_matrix
returns-in_err-row_matrix c =
    let n = c.args.self.most in
    let w = word_of c.args.links.links.now c.args.by.row in
    let g = c.args.by.letter in
    rw c.from_residual.ensures (λ h. c.in_err-row_matrix.ensures (and_parts (prefixes n identity w) (within n (matrix w · of_letter g)) (sym (prefix_more n w g) ∙ h)).0)

pub returns : goal.returns
returns c =
    let n = c.args.self.most in
    let w = word_of c.args.links.links.now c.args.by.row in
    let g = c.args.by.letter in
    let x = c.in_ok-row_matrix.field-0 in
    let y = c.matrix.result in
    let e : entries x · entries y ≡ matrix w · of_letter g = λ i. entries (c.in_ok-row_matrix.ensures.1 i) · entries (c.matrix.ensures i) in
    checked_as c.product.result (within n (entries x · entries y) ≡ true) (prefixes n identity (w ++ g ∷ []) ≡ true)
    (rows (entries x · entries y)) (rows (matrix w · of_letter g))
    (λ h. prefix_more n w g ∙ and_from (prefixes n identity w) (within n (matrix w · of_letter g)) c.in_ok-row_matrix.ensures.0 (ap (within n) (sym e) ∙ h))
    (λ h. ap (within n) e ∙ (and_parts (prefixes n identity w) (within n (matrix w · of_letter g)) (sym (prefix_more n w g) ∙ h)).1)
    (ap rows e) c.product.ensures
