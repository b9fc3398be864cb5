-- A list in range is read as it is.
use Rattle.std.proofs.Common.{sym, refl, ◌∙◌, subst, inr}
use Rattle.std.proofs.lemmas.Result.{err_from_is_err_and}
use Rattle.jobs.specs.Lists.{SaysList}
use Rattle.jobs.specs.Squares.{AllIn}
use Rattle.jobs.proofs.Glued.{all_whole, all_under}
use Rattle.jobs.proofs.squares.numbers.Goals as goal

pub returns-in_err-in_range : goal.returns-in_err-in_range
returns-in_err-in_range c =
    let p = err_from_is_err_and c.from_residual-in_err-in_range.result c.from_residual-in_err-in_range.ensures.1 in
    let a = c.in_ok-list.ensures in
    let b = c.in_err-in_range.ensures in
    rw (p.1, p.2, b.0) (inr (refl, a.0, a.1, λ h. b.1 (subst AllIn (sym (all_whole a.0 h) ∙ sym a.2 ∙ sym c.as_slice.ensures.value) h)))

pub returns : goal.returns
returns c =
    let a = c.in_ok-list.ensures in
    let r = subst AllIn c.as_slice.ensures.value c.in_ok-in_range.ensures in
    let w = a.2 ∙ all_under a.0 (subst AllIn a.2 r) in
    (subst (SaysList c.args.body.now) (sym w) a.1, r)
