-- The lines so far say the matrices in the list, and there are at most a hundred.
use Rattle.std.proofs.Common.{◌≤◌, map, length, vec_items, vec_len}
use Rattle.modular.specs.Matrix.{entries}
use Rattle.jobs.specs.Jobs.{Passed}
use Rattle.jobs.proofs.read.matrix_lines.Given as goal

abbrev pub invariant-loop-rest : goal.invariant-loop-rest
invariant-loop-rest l = Passed 0 l.text (map entries (vec_items l.list)) l.rest × (vec_len l.list ≤ 100)

abbrev pub decreases-loop-rest : goal.decreases-loop-rest
decreases-loop-rest l = length l.rest
