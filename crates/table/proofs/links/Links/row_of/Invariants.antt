-- What is left of the matrix has small entries and determinant 1, and it leads from the row reached so far to the row of the whole.
use Rattle.std.proofs.Common.{◌≡◌, pos, nat_abs}
use Rattle.modular.specs.Matrix.{det, entries}
use Rattle.table.specs.Placing.{placed_in, placed}
use Rattle.table.proofs.Dividing.{Small}
use Rattle.table.proofs.links.Links.row_of.Given as goal

abbrev pub invariant-loop-q : goal.invariant-loop-q
invariant-loop-q l =
    Small 1000000000 (entries l.m) × (det (entries l.m) ≡ pos 1)
    × (placed_in l.self.links.now (nat_abs (entries l.m).c) (entries l.m) l.row ≡ placed l.self.links.now (entries l.initial.m))

abbrev pub decreases-loop-q : goal.decreases-loop-q
decreases-loop-q l = nat_abs (entries l.m).c
