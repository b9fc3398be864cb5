-- The run goes on through the fills to the close, and the listing tells its table.
use Rattle.std.proofs.Common.{map, take, sym, ◌∙◌, subst, inl}
use Rattle.modular.specs.Matrix.{entries}
use Rattle.table.specs.Growing.{moment}
use Rattle.listing.specs.Grown.{Crowded}
use Rattle.table.proofs.Fills.{size_on}
use Rattle.listing.proofs.Whole.{run_on, run_closed, run_crowded, listed_or}
use Rattle.listing.proofs.grown.finish.Goals as goal

pub returns-in_default : goal.returns-in_default
returns-in_default g c = λ size first es every run n k.
    let G = g.A.Action in
    let a = c.args.table.action in
    let m = moment c.args.table.counts c.args.rows.now c.args.links.now in
    let f = moment c.fill_up-ended.new.self.counts c.fill_up-ended.new.rows c.fill_up-ended.new.links in
    let w = c.fill_up-ended.ensures.way in
    let o = run_on (G.start a) (G.step_t a) (G.step_s a) (G.agrees a) size first every m f es run w in
    let z = size_on (G.start a) (G.step_t a) (G.step_s a) (G.agrees a) m f w in
    let p = run_crowded (G.start a) (G.step_t a) (G.step_s a) (G.agrees a) size first every f o.0 c.fill_up-ended.result _ o.1
    (c.fill_up-ended.auto.rows ∙ n ∙ sym z) c.fill_up-ended.ensures.end c.in_default.ensures.answer in
    inl (p.0, subst (Crowded (G.start a) (G.step_t a) (G.step_s a)) z p.1)

pub returns : goal.returns
returns g c = λ size first es every run n k.
    let G = g.A.Action in
    let a = c.args.table.action in
    let m = moment c.args.table.counts c.args.rows.now c.args.links.now in
    let f = moment c.fill_up-ended.new.self.counts c.fill_up-ended.new.rows c.fill_up-ended.new.links in
    let o = run_on (G.start a) (G.step_t a) (G.step_s a) (G.agrees a) size first every m f es run c.fill_up-ended.ensures.way in
    let links = c.in-Ok.finished.links.now in
    let q = run_closed (G.start a) (G.step_t a) (G.step_s a) (G.agrees a) size first every f o.0 links o.1 c.in-Ok.ensures.answer in
    listed_or (G.start a) (G.step_t a) (G.step_s a) (G.agrees a) size first every (take f.counts.held f.rows) links q.0 q.1 c.args.table.counts.size
    (map entries c.args.matrices.now) c.listing.result c.listing.ensures
