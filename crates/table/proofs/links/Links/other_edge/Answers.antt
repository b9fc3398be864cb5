-- The edges that pass are those that are no tree edges, in their order.
use Rattle.std.proofs.Common.{◌≡◌, ◌*◌, length, Some, None, sym, ap, ◌∙◌, arith, rules, tests}
use Rattle.std.specs.List.{slice_get}
use Rattle.std.proofs.lemmas.Iterator.{YieldsList-from_range}
use Rattle.std.proofs.lemmas.Iterator.Consumers.{YieldsList-from_filter, nth_from_yields_List}
use Rattle.std.proofs.lemmas.Option.{slice_get_within, get_or_from_slice_get}
use Rattle.table.specs.Generators.{other_edges}
use Rattle.table.proofs.OtherEdges.{is_other, others_filter, others_small, past_end}
use Rattle.table.proofs.links.Links.other_edge.Goals as goal

pub numbered-requires : goal.numbered-requires
numbered-requires c =
    let links = c.args.self.links.now in
    let found : Some c.in_ok-n.n ≡ slice_get (other_edges links) c.args.number = nth_from_yields_List (Some c.in_ok-n.n) c.nth.new.self c.args.number c.in_ok-n.ensures.ran
    (YieldsList-from_filter _ (is_other links) (YieldsList-from_range 0 (2 * c.from.result) (2 * length links) c.filter.ensures.source (omega arith)) c.filter.ensures.closure (λ x b q k. search (rules, tests)))
    ∙ ap (λ l. slice_get l c.args.number) (others_filter links (2 * length links)) in
    let small = others_small links (2 * length links) c.args.number (slice_get_within (other_edges links) c.args.number c.in_ok-n.n (sym found)) in
    omega (arith, small, get_or_from_slice_get (other_edges links) c.args.number c.in_ok-n.n 0 (sym found))

pub returns-in_err-n : goal.returns-in_err-n
returns-in_err-n c =
    let links = c.args.self.links.now in
    rw c.from_residual.ensures (past_end (other_edges links) c.args.number (sym (
    nth_from_yields_List None c.nth.new.self c.args.number c.in_err-n.ensures.ran
    (YieldsList-from_filter _ (is_other links) (YieldsList-from_range 0 (2 * c.from.result) (2 * length links) c.filter.ensures.source (omega arith)) c.filter.ensures.closure (λ x b q k. search (rules, tests)))
    ∙ ap (λ l. slice_get l c.args.number) (others_filter links (2 * length links)))))

pub returns : goal.returns
returns c =
    let links = c.args.self.links.now in
    let found : Some c.in_ok-n.n ≡ slice_get (other_edges links) c.args.number = nth_from_yields_List (Some c.in_ok-n.n) c.nth.new.self c.args.number c.in_ok-n.ensures.ran
    (YieldsList-from_filter _ (is_other links) (YieldsList-from_range 0 (2 * c.from.result) (2 * length links) c.filter.ensures.source (omega arith)) c.filter.ensures.closure (λ x b q k. search (rules, tests)))
    ∙ ap (λ l. slice_get l c.args.number) (others_filter links (2 * length links)) in
    (slice_get_within (other_edges links) c.args.number c.in_ok-n.n (sym found), c.numbered.ensures.number ∙ sym (get_or_from_slice_get (other_edges links) c.args.number c.in_ok-n.n 0 (sym found)))
