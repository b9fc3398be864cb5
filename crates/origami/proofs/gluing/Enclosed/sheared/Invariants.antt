use Rattle.origami.specs.Gluings.{right_of, up_of}
use Rattle.origami.proofs.Filled.{Filled}
use Rattle.origami.proofs.gluing.Enclosed.sheared.Given as goal

abbrev pub invariant-loop-i : goal.invariant-loop-i
invariant-loop-i l = Filled l.i (λ k. up_of l.fn.self.gluing (right_of l.fn.self.gluing k)) l.up
