-- The line of mirror passes, and then the matrix lines do.
use Rattle.std.proofs.Common.{sym, ◌∙◌}
use Rattle.std.proofs.lemmas.Result.{err_from_is_err_and, MatchResult-at_ok, MatchResult-at_err}
use Rattle.jobs.specs.Jobs.{in_mirror}
use Rattle.jobs.proofs.Passing.{line_ok, line_err, tail_matrices}
use Rattle.jobs.proofs.read.tail.Goals as goal

pub returns-in_err-mirror : goal.returns-in_err-mirror
returns-in_err-mirror g c =
    let p = err_from_is_err_and c.from_residual.result c.from_residual.ensures.1 in
    let e = line_err _ c.mirror_line.result _ (sym c.on_line.ensures ∙ c.in_err-mirror.was) in
    let f = MatchResult-at_err _ _ _ e.0 c.mirror_line.ensures in
    rw (p.1, p.2, e.1) (in_mirror _ f)

pub returns-in_err-matrices : goal.returns-in_err-matrices
returns-in_err-matrices g c =
    let p = err_from_is_err_and c.from_residual-in_err-matrices.result c.from_residual-in_err-matrices.ensures.1 in
    let m = MatchResult-at_ok _ _ _ (line_ok _ c.mirror_line.result _ (sym c.on_line.ensures ∙ c.in_ok-mirror.was)) c.mirror_line.ensures in
    rw (p.1, p.2) (tail_matrices _ _ _ _ m _ c.in_err-matrices.ensures)
