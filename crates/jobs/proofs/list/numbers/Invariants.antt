-- The list has the numbers of the fields so far.
use Rattle.std.proofs.Common.{◌≡◌, ℕ, List, map, vec_items}
use Rattle.jobs.specs.Lists.{capped_all}
use Rattle.jobs.proofs.Listed.{EachSays}
use Rattle.jobs.proofs.list.numbers.Given as goal

abbrev pub invariant-loop-field : goal.invariant-loop-field
invariant-loop-field l = (ns : List ℕ) × EachSays (map (λ f. f.now) l.yielded) ns × (vec_items l.list ≡ capped_all ns)
