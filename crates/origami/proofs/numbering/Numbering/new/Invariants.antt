use Rattle.origami.specs.Gluings.{right_of, up_of}
use Rattle.origami.specs.Numberings.{Holds}
use Rattle.origami.specs.Squares.{numbered}
use Rattle.origami.proofs.numbering.Numbering.new.Given as goal

abbrev pub invariant-loop-i : goal.invariant-loop-i
invariant-loop-i l = Holds l.first (numbered (right_of l.g) (up_of l.g) l.first l.i) l.n
