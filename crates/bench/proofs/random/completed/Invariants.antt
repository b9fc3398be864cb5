-- Each remainder is below its divisor, and the divisor is not 0.
use Rattle.std.proofs.Common.{◌<◌}
use Rattle.bench.proofs.random.completed.Given as goal

abbrev pub invariant-loop-next_r : goal.invariant-loop-next_r
invariant-loop-next_r l = 0 < l.r

abbrev pub decreases-loop-next_r : goal.decreases-loop-next_r
decreases-loop-next_r l = l.next_r
