use Rattle.levels.proofs.MatrixMembers.{matrices_at}
use Rattle.levels.proofs.matrices.Matrices.new.Goals as goal

pub returns : goal.returns
returns c =
    let l = c.in_ok-new.field-0 in
    let e = c.in_ok-new.ensures in
    (e, rw (← e) (matrices_at l.n l.ok))
