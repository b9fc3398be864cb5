use Rattle.std.proofs.Common.{◌<◌, ◌∙◌, arith}
use Rattle.levels.proofs.Euclid.{gcd_step}
use Rattle.levels.proofs.level.gcd.Goals as goal

pub loop-b-preserved : goal.loop-b-preserved
loop-b-preserved c = let h : 0 < c.loop-b.b = omega arith in gcd_step c.loop-b.a c.loop-b.b h ∙ c.loop-b.invariant
