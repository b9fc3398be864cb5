-- What is left of the count, from this row and this step on, is the width.
use Rattle.std.proofs.Common.{◌≡◌, ◌+◌, ◌-◌, length}
use Rattle.modular.specs.declared.letter.Letter.TheVariants.{T}
use Rattle.table.specs.Links.{next}
use Rattle.table.specs.Widths.{back, width}
use Rattle.table.proofs.links.Links.width.Given as goal

abbrev pub invariant-loop-steps : goal.invariant-loop-steps
invariant-loop-steps l =
    back l.self.links.now (length l.self.links.now + 1 - l.steps) (next l.self.links.now T l.at) l.row l.steps ≡ width l.self.links.now l.row
