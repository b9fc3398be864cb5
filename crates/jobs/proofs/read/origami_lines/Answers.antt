-- The lines of right and up pass one after the other.
use Rattle.std.proofs.Common.{vec_items, codes, sym, ◌∙◌, subst, inl, inr}
use Rattle.std.proofs.lemmas.Result.{err_from_is_err_and, MatchResult-at_ok, MatchResult-at_err}
use Rattle.jobs.specs.Bytes.{Keyed}
use Rattle.jobs.specs.Line.{form}
use Rattle.jobs.specs.Squares.{RightLine, ReadsRight, ReadsUp}
use Rattle.jobs.proofs.Passing.{line_ok, line_err, made_ok, up_fails}
use Rattle.jobs.proofs.read.origami_lines.Goals as goal
use Rattle.jobs.proofs.read.origami_lines.Goals.{After-right, After-body-2, After-glued}

pub returns-in_err-body : goal.returns-in_err-body
returns-in_err-body c =
    let p = err_from_is_err_and c.from_residual.result c.from_residual.ensures.1 in
    let e = line_err 2 c.body.result _ (sym c.on_line.ensures ∙ c.in_err-body.was) in
    let f = MatchResult-at_err _ _ _ e.0 c.body.ensures in
    rw (p.1, p.2, f.0) (inl (form f.1, e.1))

-- the line of right has its key, and says a list
right_keyed : (c : After-right) → Keyed (codes "right=") c.args.text.now c.in_ok-body.body.now c.in_ok-body.rest.now
right_keyed c = MatchResult-at_ok _ _ _ (line_ok 2 c.body.result _ (sym c.on_line.ensures ∙ c.in_ok-body.was)) c.body.ensures

right_said : (c : After-body-2) → RightLine c.args.text.now (vec_items c.in_ok-right.right) c.in_ok-body.rest.now
right_said c =
    let o = made_ok 2 c.right.result _ (sym c.made_on_line.ensures ∙ c.in_ok-right.was) in
    subst (ReadsRight c.in_ok-body.body.now) o c.right.ensures _ _ (right_keyed (goal.at.After-body-2 c).After-right)

pub returns-in_err-body-2 : goal.returns-in_err-body-2
returns-in_err-body-2 c =
    let p = err_from_is_err_and c.from_residual-in_err-body-2.result c.from_residual-in_err-body-2.ensures.1 in
    let e = line_err 3 c.body-2.result _ (sym c.on_line-2.ensures ∙ c.in_err-body-2.was) in
    let f = MatchResult-at_err _ _ _ e.0 c.body-2.ensures in
    rw (p.1, p.2, f.0) (inr (_, _, right_said (goal.at.returns-in_err-body-2 c).After-body-2, form f.1, e.1))

-- so does the line of up
up_keyed : (c : After-glued) → Keyed (codes "up=") c.in_ok-body.rest.now c.in_ok-body-2.body.now c.in_ok-body-2.rest.now
up_keyed c = MatchResult-at_ok _ _ _ (line_ok 3 c.body-2.result _ (sym c.on_line-2.ensures ∙ c.in_ok-body-2.was)) c.body-2.ensures

up_read : (c : After-glued) → ReadsUp (vec_items c.in_ok-right.right) c.in_ok-body-2.body.now c.glued.result
up_read c = subst (λ l. ReadsUp l c.in_ok-body-2.body.now c.glued.result) c.as_slice.ensures.value c.glued.ensures

pub returns-in_err-origami : goal.returns-in_err-origami
returns-in_err-origami c =
    let p = err_from_is_err_and c.from_residual-in_err-origami.result c.from_residual-in_err-origami.ensures.1 in
    let a = (goal.at.returns-in_err-origami c).After-glued in
    let l = right_said (goal.at.After-glued a).After-body-2 in
    rw (p.1, p.2) (up_fails _ _ _ _ _ c.glued.result l (up_keyed a) (up_read a) _ (sym c.made_on_line-2.ensures ∙ c.in_err-origami.was))
