use Rattle.std.proofs.Common.{◌≡◌}
use Rattle.levels.specs.Lines.{least_below}
use Rattle.levels.proofs.lines.least.Given as goal

abbrev pub invariant-loop-u : goal.invariant-loop-u
invariant-loop-u l = l.best ≡ least_below l.level.n l.u l.v
