-- The rows that pass are those of the definition.
use Rattle.std.proofs.Common.{ℕ, Bool, eqb, length, ◌∙◌, arith, rules, tests}
use Rattle.std.proofs.lemmas.Iterator.{YieldsList-from_range}
use Rattle.std.proofs.lemmas.Iterator.Consumers.{YieldsList-from_filter, count_from_yields_List}
use Rattle.modular.specs.declared.letter.Letter.TheVariants.{S}
use Rattle.table.specs.Links.{next}
use Rattle.table.proofs.Tallies.{counted_filter, counted_most}
use Rattle.table.proofs.links.Links.e2.Goals as goal

pub returns : goal.returns
returns c =
    let test : ℕ → Bool = λ r. eqb (next c.args.self.links.now S r) r in
    let n = length c.args.self.links.now in
    let told = count_from_yields_List c.filter.result _ c.count.ensures.ran
    (YieldsList-from_filter _ test (YieldsList-from_range 0 c.rows.result n c.filter.ensures.source (omega arith)) c.filter.ensures.closure (λ x b q k. search (rules, tests)))
    ∙ counted_filter test n in
    record { value = told; most = omega (arith, counted_most test n, told) }
