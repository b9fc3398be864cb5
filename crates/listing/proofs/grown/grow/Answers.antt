-- A run begins at the open table.
use Rattle.std.proofs.Common.{◌≡◌, [], map, sym, ◌∙◌, subst, inr}
use Rattle.modular.specs.Matrix.{entries}
use Rattle.table.specs.Growing.{moment}
use Rattle.table.specs.Runs.{Run, started, begun, growing}
use Rattle.listing.specs.Grown.{Finishes, ListedOr}
use Rattle.listing.proofs.Opening.{opened_lent}
use Rattle.listing.proofs.grown.grow.Goals as goal

pub returns-in-Ok : goal.returns-in-Ok
returns-in-Ok g c =
    let G = g.A.Action in
    let a = c.args.action in
    let rows = c.args.rows.now in
    let links = c.args.links.now in
    let xs = map entries c.args.matrices.now in
    let n = c.in-Ok.table.counts in
    let h = c.in-Ok.ensures.answer in
    let l = opened_lent (G.start a) rows links n h in
    let m = moment n c.open.new.rows c.open.new.links in
    let same : started (G.start a) rows links n ≡ m = λ i. moment n (sym c.open.ensures.rows i) (sym c.open.ensures.links i) in
    let f = subst (λ b. Finishes (G.start b) (G.step_t b) (G.step_s b) (G.agrees b) m xs c.finish.result) c.in-Ok.ensures.action c.finish.ensures in
    let r = f n.size (started (G.start a) rows links n) [] (c.open.ensures.every_run rows links n h)
    (subst (λ k. Run (G.start a) (G.step_t a) (G.step_s a) (G.agrees a) n.size (started (G.start a) rows links n) (growing k) []) same begun)
    (c.open.auto.rows ∙ sym l.size) (c.open.auto.links ∙ l.equal ∙ sym l.size) in
    inr (l.can, subst (λ k. ListedOr (G.start a) (G.step_t a) (G.step_s a) k xs c.finish.result) l.size r)
