-- The law over all runs is the theorem of that name.
use Rattle.table.proofs.EveryRun.{every_run}
use Rattle.table.proofs.growing.Growing.open.Goals as goal

pub returns-then-not-lendable-clause-every_run : goal.returns-then-not-lendable-clause-every_run
returns-then-not-lendable-clause-every_run g c = every_run _ _ _ _ (g.A.Action.laws c.args.action)

pub returns-clause-every_run : goal.returns-clause-every_run
returns-clause-every_run g c = every_run _ _ _ _ (g.A.Action.laws c.args.action)
