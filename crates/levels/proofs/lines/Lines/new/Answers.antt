use Rattle.std.proofs.Common.{subst}
use Rattle.levels.specs.Lines.{LinesAt, IsLine, sheared, turned}
use Rattle.levels.specs.Vectors.{first}
use Rattle.levels.proofs.LineMembers.{lines_at}
use Rattle.levels.proofs.lines.Lines.new.Goals as goal

pub returns : goal.returns
returns c =
    let l = c.in_ok-new.field-0.level in
    let e = c.in_ok-new.ensures.0 in
    (e, subst (λ n. LinesAt n (IsLine l.n) (first l.n) (sheared l.n) (turned l.n)) e (lines_at l.n l.ok))
