-- A list that is read and in range is judged by the maker, together with the right list.
use Rattle.std.proofs.Common.{refl, subst}
use Rattle.std.proofs.lemmas.Result.{err_from_is_err_and}
use Rattle.origami.specs.Listings.{Declined}
use Rattle.jobs.specs.Line.{refused}
use Rattle.jobs.proofs.Glued.{up_unread}
use Rattle.jobs.proofs.squares.glued.Goals as goal

pub returns-in_err-up : goal.returns-in_err-up
returns-in_err-up c =
    let p = err_from_is_err_and c.from_residual.result c.from_residual.ensures.1 in
    rw (p.1, p.2) (up_unread _ _ _ c.in_err-up.ensures)

pub returns-in_err-new : goal.returns-in_err-new
returns-in_err-new c =
    let p = err_from_is_err_and c.from_residual-in_err-new.result c.from_residual-in_err-new.ensures.1 in
    let a = c.in_ok-up.ensures in
    let d = subst (λ l. Declined c.args.right.now l c.in_err-new.field-0.0) c.as_slice.ensures.value c.in_err-new.ensures in
    rw (p.1, p.2) (λ text rest k. refused _ _ _ _ k a.0 a.1 (_, d, refl))
