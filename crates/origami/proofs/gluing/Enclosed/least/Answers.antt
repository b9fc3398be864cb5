use Rattle.std.proofs.Common.{◌-◌, sym, ap, ◌∙◌, arith}
use Rattle.origami.specs.Forms.{better}
use Rattle.origami.proofs.Smallest.{smallest_more, smallest_all, smallest_degree, reading_degree}
use Rattle.origami.proofs.gluing.Enclosed.least.Goals as goal

pub better-best-requires : goal.better-best-requires
better-best-requires c =
    let g = c.args.self.gluing in
    let first = ap (λ k. k.degree) c.reading.ensures ∙ reading_degree g c.loop-first.first in
    let best = ap (λ k. k.degree) c.loop-first.invariant ∙ smallest_degree g (c.loop-first.first - 1) in
    first ∙ sym best

pub loop-first-preserved : goal.loop-first-preserved
loop-first-preserved c =
    let g = c.args.self.gluing in
    c.better-best.ensures ∙ (λ i. better (c.reading.ensures i) (c.loop-first.invariant i)) ∙ smallest_more g c.loop-first.first c.loop-first.auto.first

pub returns : goal.returns
returns c = c.loop-first.invariant ∙ smallest_all c.args.self.gluing c.loop-first.first (omega (arith, c.loop-first.auto.first-end c.args.self.ok.some))
