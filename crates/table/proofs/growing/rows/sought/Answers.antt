-- The first row that agrees is the one sought.
use Rattle.std.proofs.Common.{rules, tests}
use Rattle.std.proofs.lemmas.Iterator.{IsFirst-from_position, YieldsList-from_slice}
use Rattle.table.proofs.Seeking.{Yes, No, sought_first}
use Rattle.table.proofs.growing.rows.sought.Goals as goal

pub returns : goal.returns
returns g c =
    let agrees = g.A.Action.agrees c.args.action.now in
    let p = c.args.p in
    let rows = c.args.rows.now in
    sought_first agrees p rows c.position.result
    (IsFirst-from_position _ _ _ (Yes agrees p) (No agrees p) c.position.ensures.ran (YieldsList-from_slice rows cc) (λ x q k. search (rules, tests)) (λ x q k. search (rules, tests)))
