-- A number is read, and one past the cap is no level.
use Rattle.std.proofs.Common.{refl, arith}
use borrow.Author.Differences.{ints}
use Rattle.std.proofs.lemmas.Result.{err_from_is_err_and}
use Rattle.jobs.specs.Line.{form, unread, range}
use Rattle.jobs.proofs.lines.level_line.Goals as goal

pub returns-in_err-body : goal.returns-in_err-body
returns-in_err-body c =
    let p = err_from_is_err_and c.from_residual.result c.from_residual.ensures.1 in
    let f = c.in_err-body.ensures in
    rw (p.1, p.2, f.0) (form f.1)

pub returns-in_err-level : goal.returns-in_err-level
returns-in_err-level c =
    let p = err_from_is_err_and c.from_residual-in_err-level.result c.from_residual-in_err-level.ensures.1 in
    let a = c.in_err-level.ensures in
    rw (p.1, p.2, a.0) (unread _ _ c.in_ok-body.ensures (λ n s. a.1 s.0))

pub returns-in_err-ranged : goal.returns-in_err-ranged
returns-in_err-ranged c =
    let p = err_from_is_err_and c.from_residual-in_err-ranged.result c.from_residual-in_err-ranged.ensures.1 in
    let a = c.in_err-ranged.ensures in
    let l = c.in_ok-level.ensures in
    rw (p.1, p.2, a.0) (range _ _ _ c.in_ok-body.ensures (l.0, refl) (λ h. a.1 (omega (arith, ints, c.from.ensures))))
