-- What is left of the pass, from this row and this count on, decides as the whole does.
use Rattle.std.proofs.Common.{◌≡◌, ◌-◌, length}
use Rattle.table.specs.SoundTest.{swept}
use Rattle.table.proofs.links.Links.reached.Given as goal

abbrev pub invariant-loop-row : goal.invariant-loop-row
invariant-loop-row l = swept l.self.links.now (length l.self.links.now - l.row) l.row l.reached ≡ swept l.self.links.now (length l.self.links.now) 0 1
