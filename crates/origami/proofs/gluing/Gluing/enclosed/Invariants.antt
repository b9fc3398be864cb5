use Rattle.std.proofs.Common.{◌≡◌, true}
use Rattle.origami.specs.Origamis.{inside_below}
use Rattle.origami.proofs.gluing.Gluing.enclosed.Given as goal

abbrev pub invariant-loop-square : goal.invariant-loop-square
invariant-loop-square l = inside_below l.self l.square ≡ true
