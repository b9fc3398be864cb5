-- Generator is its definition, by its tests. The links are sound, so there are as many generators as edges that are no tree edges.
use Rattle.std.proofs.Common.{◌≤◌, true, length, sym, ap, ◌∙◌, subst, arith}
use Rattle.std.proofs.lemmas.Result.{err_from_is_err_and}
use Rattle.table.specs.declared.refusal.Refusal.TheVariants.{NoSuch}
use Rattle.table.specs.Generators.{generator_at, other_edges}
use Rattle.table.specs.Questions.{edge_of, generate_by, in_rows, narrow}
use Rattle.table.proofs.Generated.{found, not_found, given, none_there, no_limit, by_entries, others}
use Rattle.table.proofs.finished.Finished.generator.Goals as goal

pub returns-then-number-self : goal.returns-then-number-self
returns-then-number-self c =
    let table = c.args.self.now in
    sym (ap in_rows (none_there table.links.now c.args.number c.args.limit c.if-number-self.true))

pub returns-in_err-limit : goal.returns-in_err-limit
returns-in_err-limit c =
    let table = c.args.self.now in
    let p = err_from_is_err_and c.from_residual.result c.from_residual.ensures.1 in
    let n = c.in_err-limit.ensures in
    rw (p.1, p.2, n.0) (sym (ap in_rows (no_limit table.links.now c.args.number c.args.limit c.if-number-self.false n.1)))

pub returns-in_err-edge : goal.returns-in_err-edge
returns-in_err-edge c =
    let table = c.args.self.now in
    let n = not_found c.other_edge.result NoSuch _ _ c.in_err-edge.field-0.0 c.other_edge.ensures (sym c.ok_or.ensures.value ∙ c.in_err-edge.was) in
    let few = subst (λ l. length (other_edges l) ≤ c.args.number) c.read.ensures n.0 in
    absurd (omega (arith, few, others table.links.now table.good, c.if-number-self.false))

pub returns : goal.returns
returns c =
    let table = c.args.self.now in
    let k = c.args.number in
    let x = c.in_ok-edge.edge in
    let e = found c.other_edge.result NoSuch _ _ x c.other_edge.ensures (sym c.ok_or.ensures.value ∙ c.in_ok-edge.was) in
    let same = e.1 ∙ ap (λ l. edge_of l k) c.read.ensures in
    let limit = c.in_ok-limit.ensures in
    c.ok_or-2.ensures.value
    ∙ given c.edge_matrix.result _ _ c.edge_matrix.ensures
    ∙ (λ i. in_rows (generate_by true true (narrow (c.read-2.ensures i) (limit.0 i) (same i)) (generator_at (c.read-2.ensures i) (same i))))
    ∙ sym (ap in_rows (by_entries table.links.now k c.args.limit c.if-number-self.false limit.1))
