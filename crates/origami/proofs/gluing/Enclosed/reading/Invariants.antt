use Rattle.origami.specs.Forms.{order}
use Rattle.origami.specs.Gluings.{right_of, up_of}
use Rattle.origami.specs.Squares.{renumbered}
use Rattle.origami.proofs.Filled.{Filled}
use Rattle.origami.proofs.gluing.Enclosed.reading.Given as goal

abbrev pub invariant-loop-i : goal.invariant-loop-i
invariant-loop-i l =
    Filled l.i (renumbered (right_of l.fn.self.gluing) l.fn.first (order l.fn.self.gluing l.fn.first)) l.right
    × Filled l.i (renumbered (up_of l.fn.self.gluing) l.fn.first (order l.fn.self.gluing l.fn.first)) l.up
