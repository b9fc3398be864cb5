-- A list that is read and in range is judged by the maker.
use Rattle.std.proofs.Common.{refl, subst}
use Rattle.std.proofs.lemmas.Result.{err_from_is_err_and}
use Rattle.origami.specs.Listings.{DeclinedRight}
use Rattle.jobs.specs.Line.{refused}
use Rattle.jobs.proofs.Glued.{right_unread}
use Rattle.jobs.proofs.squares.right.Goals as goal

pub returns-in_err-list : goal.returns-in_err-list
returns-in_err-list c =
    let p = err_from_is_err_and c.from_residual.result c.from_residual.ensures.1 in
    rw (p.1, p.2) (right_unread _ _ c.in_err-list.ensures)

pub returns-in_err-check_right : goal.returns-in_err-check_right
returns-in_err-check_right c =
    let p = err_from_is_err_and c.from_residual-in_err-check_right.result c.from_residual-in_err-check_right.ensures.1 in
    let a = c.in_ok-list.ensures in
    let d = subst (λ l. DeclinedRight l c.in_err-check_right.field-0.0) c.as_slice.ensures.value c.in_err-check_right.ensures in
    rw (p.1, p.2) (λ text rest k. refused _ _ _ _ k a.0 a.1 (_, d, refl))
