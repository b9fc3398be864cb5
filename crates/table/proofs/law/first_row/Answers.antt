-- The law is the theorem of that name, at the laws of the action.
use Rattle.table.proofs.EveryRun.{every_run}
use Rattle.table.proofs.law.first_row.Goals as goal

pub returns : goal.returns
returns g c = record { first = c.first.ensures; every_run = every_run _ _ _ _ (g.A.Action.laws c.args.action.now) }
