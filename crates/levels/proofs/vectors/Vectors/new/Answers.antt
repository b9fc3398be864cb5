use Rattle.levels.proofs.VectorMembers.{vectors_at}
use Rattle.levels.proofs.vectors.Vectors.new.Goals as goal

pub returns : goal.returns
returns c =
    let l = c.in_ok-new.field-0 in
    let e = c.in_ok-new.ensures in
    (e, rw (← e) (vectors_at l.n l.ok))
