-- The rows that pass are those of the definition.
use Rattle.std.proofs.Common.{ℕ, Bool, length, ◌∙◌, arith, rules, tests}
use Rattle.std.proofs.lemmas.Iterator.{YieldsList-from_range}
use Rattle.std.proofs.lemmas.Iterator.Consumers.{YieldsList-from_filter, count_from_yields_List}
use Rattle.table.specs.Shapes.{is_low}
use Rattle.table.proofs.Tallies.{counted_filter, counted_most}
use Rattle.table.proofs.links.Links.cusps.Goals as goal

pub returns : goal.returns
returns c =
    let test : ℕ → Bool = is_low c.args.self.links.now in
    let n = length c.args.self.links.now in
    let told = count_from_yields_List c.filter.result _ c.count.ensures.ran
    (YieldsList-from_filter _ test (YieldsList-from_range 0 c.rows.result n c.filter.ensures.source (omega arith)) c.filter.ensures.closure (λ x b q k. search (rules, tests)))
    ∙ counted_filter test n in
    record { value = told; most = omega (arith, counted_most test n, told) }
