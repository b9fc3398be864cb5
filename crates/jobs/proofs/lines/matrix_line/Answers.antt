-- The entries are read, then their range is looked at, then the determinant.
use Rattle.std.proofs.Common.{sym, refl, ap, ◌∙◌, subst}
use Rattle.std.proofs.lemmas.Result.{err_from_is_err_and}
use Rattle.modular.specs.Matrix.{entries, det}
use Rattle.jobs.specs.Format.{IsMatrix, SaysMatrix}
use Rattle.jobs.specs.Line.{form, unread, range, refused}
use Rattle.jobs.proofs.Capped.{read_whole, said_whole}
use Rattle.jobs.proofs.lines.matrix_line.Goals as goal

pub returns-in_err-body : goal.returns-in_err-body
returns-in_err-body c =
    let p = err_from_is_err_and c.from_residual.result c.from_residual.ensures.1 in
    let f = c.in_err-body.ensures in
    rw (p.1, p.2, f.0) (form f.1)

pub returns-in_err-m : goal.returns-in_err-m
returns-in_err-m c =
    let p = err_from_is_err_and c.from_residual-in_err-m.result c.from_residual-in_err-m.ensures.1 in
    let a = c.in_err-m.ensures in
    rw (p.1, p.2, a.0) (unread _ _ c.in_ok-body.ensures a.1)

pub returns-in_err-in_range : goal.returns-in_err-in_range
returns-in_err-in_range c =
    let p = err_from_is_err_and c.from_residual-in_err-in_range.result c.from_residual-in_err-in_range.ensures.1 in
    let a = c.in_err-in_range.ensures in
    let m = c.in_ok-m.ensures in
    rw (p.1, p.2, a.0) (range _ _ m.0 c.in_ok-body.ensures m.1 (λ h.
    a.1 (subst (IsMatrix c.args.before) (sym (read_whole _ m.0 h) ∙ sym (ap entries m.2)) h)))

pub returns-in_err-unimodular : goal.returns-in_err-unimodular
returns-in_err-unimodular c =
    let p = err_from_is_err_and c.from_residual-in_err-unimodular.result c.from_residual-in_err-unimodular.ensures.1 in
    let a = c.in_err-unimodular.ensures in
    let m = c.in_ok-m.ensures in
    let r = c.in_ok-in_range.ensures in
    let w = said_whole c.args.before m.0 (entries c.in_ok-m.m) (ap entries m.2) r in
    rw (p.1, p.2, a.0) (refused _ _ m.0 _ c.in_ok-body.ensures m.1 (subst (IsMatrix c.args.before) w r) (refl, λ d. a.1 (ap det w ∙ d)))

pub returns : goal.returns
returns c =
    let m = c.in_ok-m.ensures in
    let r = c.in_ok-in_range.ensures in
    let w = said_whole c.args.before m.0 (entries c.in_ok-m.m) (ap entries m.2) r in
    record {
      body = _;
      keyed = c.in_ok-body.ensures;
      says = subst (SaysMatrix c.in_ok-body.body.now) (sym w) m.1;
      range = r;
      made = λ n h. h.1 c.in_ok-unimodular.ensures;
    }
