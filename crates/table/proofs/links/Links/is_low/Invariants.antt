-- What is left of the test, from this row on, is the whole test.
use Rattle.std.proofs.Common.{◌≡◌, ◌-◌, length}
use Rattle.table.specs.Shapes.{low_from, is_low}
use Rattle.table.proofs.links.Links.is_low.Given as goal

abbrev pub invariant-loop : goal.invariant-loop
invariant-loop l = low_from l.self.links.now (length l.self.links.now - l.counter) l.at l.row ≡ is_low l.self.links.now l.row
