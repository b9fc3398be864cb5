use Rattle.std.proofs.Common.{◌≡◌, ◌-◌}
use Rattle.origami.specs.Forms.{smallest}
use Rattle.origami.proofs.gluing.Enclosed.least.Given as goal

abbrev pub invariant-loop-first : goal.invariant-loop-first
invariant-loop-first l = l.best ≡ smallest l.self.gluing (l.first - 1)
