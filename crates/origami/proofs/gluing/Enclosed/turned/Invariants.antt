use Rattle.origami.specs.Gluings.{right_of}
use Rattle.origami.proofs.Filled.{Undoing}
use Rattle.origami.proofs.gluing.Enclosed.turned.Given as goal

abbrev pub invariant-loop-square : goal.invariant-loop-square
invariant-loop-square l = Undoing l.fn.self.gluing.degree (right_of l.fn.self.gluing) l.square l.up
