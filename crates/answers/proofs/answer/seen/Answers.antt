-- The mirror that is made stands above the action.
use Rattle.std.proofs.Common.{map, sym, subst}
use Rattle.modular.specs.Actions.{lead}
use Rattle.modular.specs.Inverses.{back_t, back_s}
use Rattle.modular.specs.Matrix.{entries}
use Rattle.listing.specs.Grown.{GrownOr}
use Rattle.jobs.specs.Acting.{seen_t, seen_s}
use Rattle.answers.proofs.answer.seen.Goals as goal

pub returns-then-mirror : goal.returns-then-mirror
returns-then-mirror g c =
    let G = g.A.Action in
    let a = c.args.action in
    let xs = map entries c.args.matrices.now in
    let above = subst (λ a. GrownOr (G.start a) (lead (G.step_t a) (G.step_s a) back_t) (lead (G.step_t a) (G.step_s a) back_s) 1200 xs c.list.result) c.new.ensures.holds c.list.ensures in
    subst (λ b. GrownOr (G.start a) (seen_t b (G.step_t a) (G.step_s a)) (seen_s b (G.step_t a) (G.step_s a)) 1200 xs c.list.result) (sym c.if-mirror.true) above
