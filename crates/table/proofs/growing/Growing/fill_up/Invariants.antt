-- Accepted fills lead to the table so far, and each fills one of at most two edges a row.
use Rattle.std.proofs.Common.{◌≡◌, ◌-◌, ◌*◌}
use Rattle.table.specs.Growing.{FilledOn}
use Rattle.table.specs.Growing.{moment}
use Rattle.table.proofs.growing.Growing.fill_up.Given as goal

abbrev pub invariant-loop-refusal : goal.invariant-loop-refusal
invariant-loop-refusal g l =
    (l.self.action ≡ l.initial.self.action)
    × FilledOn (g.A.Action.start l.initial.self.action) (g.A.Action.step_t l.initial.self.action) (g.A.Action.step_s l.initial.self.action) (g.A.Action.agrees l.initial.self.action)
    (moment l.initial.self.counts l.initial.rows l.initial.links) (moment l.self.counts l.rows l.links)

abbrev pub decreases-loop-refusal : goal.decreases-loop-refusal
decreases-loop-refusal g l = 2 * l.self.counts.size - l.self.counts.filled
