-- The level line passes and is a level.
use Rattle.std.proofs.Common.{sym, ◌∙◌}
use Rattle.std.proofs.lemmas.Result.{err_from_is_err_and, MatchResult-at_ok, MatchResult-at_err}
use Rattle.jobs.proofs.Passing.{line_ok, line_err, no_level}
use Rattle.jobs.proofs.read.level_lines.Goals as goal

pub returns-in_err-object : goal.returns-in_err-object
returns-in_err-object c =
    let p = err_from_is_err_and c.from_residual-in_err-object.result c.from_residual-in_err-object.ensures.1 in
    let l = MatchResult-at_ok _ _ _ (line_ok 2 c.level_line.result _ (sym c.on_line.ensures ∙ c.in_ok-level.was)) c.level_line.ensures in
    let e = line_err 2 c.object_at.result _ (sym c.on_line-2.ensures ∙ c.in_err-object.was) in
    let f = MatchResult-at_err _ _ _ e.0 c.object_at.ensures in
    rw (p.1, p.2) (no_level _ _ _ _ l f, e.1)
