-- The law over all runs is the theorem of that name, at the laws of the pile.
use Rattle.table.specs.Piles.{pile, pile_of}
use Rattle.table.proofs.EveryRun.{every_run}
use Rattle.table.proofs.pile.open_beside.Goals as goal

pub returns-clause-every_run : goal.returns-clause-every_run
returns-clause-every_run g c = every_run _ _ _ _ ((pile_of g.A.Action).laws (pile c.args.action c.args.table))
