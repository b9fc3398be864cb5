-- The test is decided at the row or below it, and goes on above it.
use Rattle.std.proofs.Common.{◌≡◌, suc, ◌+◌, ◌-◌, length, sym, ap, ◌∙◌, arith}
use Rattle.table.specs.Shapes.{low_from}
use Rattle.table.proofs.Lowest.{low_on}
use Rattle.table.proofs.links.Links.is_low.Goals as goal

pub loop-preserved : goal.loop-preserved
loop-preserved c =
    let links = c.args.self.links.now in
    let n = length links - (c.loop.counter + 1) in
    let left : length links - c.loop.counter ≡ suc n = omega arith in
    ap (λ q. low_from links n q c.args.row) c.next-at-in-loop.ensures
    ∙ sym (ap (λ n. low_from links n c.loop.at c.args.row) left ∙ low_on links n c.loop.at c.args.row c.if-at-row.false) ∙ c.loop.invariant
