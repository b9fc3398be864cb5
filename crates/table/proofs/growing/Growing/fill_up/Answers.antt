-- Each turn is an accepted fill, and the first that is declined ends it.
use Rattle.std.proofs.Common.{refl, ap, ◌∙◌}
use Rattle.table.specs.Growing.{moment, filling}
use Rattle.table.specs.Growing.{none}
use Rattle.table.proofs.Fills.{filled_more, filled_last}
use Rattle.table.proofs.growing.Growing.fill_up.Goals as goal

pub loop-refusal-init : goal.loop-refusal-init
loop-refusal-init g c = (refl, none)

pub returns-in-Err : goal.returns-in-Err
returns-in-Err g c =
    let G = g.A.Action in
    let a = c.args.self.now.action in
    let e = c.loop-refusal.invariant.0 in
    let n = moment c.loop-refusal.self.counts c.loop-refusal.rows c.loop-refusal.links in
    let p = moment c.fill.new.self.counts c.fill.new.rows c.fill.new.links in
    let h = filled_last (G.start a) (G.step_t a) (G.step_s a) (G.agrees a) (moment c.args.self.now.counts c.args.rows.now c.args.links.now) n p c.fill.result c.in-Err.refusal
    c.loop-refusal.invariant.1
    (c.fill.ensures.answer ∙ ap (λ b. (filling (G.start b) (G.step_t b) (G.step_s b) (G.agrees b) n).answer) e) c.in-Err.is
    (c.fill.ensures.memory ∙ ap (λ b. (filling (G.start b) (G.step_t b) (G.step_s b) (G.agrees b) n).memory) e) in
    record { way = h.0; end = h.1; action = c.fill.ensures.action ∙ e }

pub loop-refusal-preserved : goal.loop-refusal-preserved
loop-refusal-preserved g c =
    let G = g.A.Action in
    let a = c.args.self.now.action in
    let e = c.loop-refusal.invariant.0 in
    let n = moment c.loop-refusal.self.counts c.loop-refusal.rows c.loop-refusal.links in
    let p = moment c.fill.new.self.counts c.fill.new.rows c.fill.new.links in (
      c.fill.ensures.action ∙ e,
      filled_more (G.start a) (G.step_t a) (G.step_s a) (G.agrees a) (moment c.args.self.now.counts c.args.rows.now c.args.links.now) n p c.fill.result c.in_default.field-0
          c.loop-refusal.invariant.1
          (c.fill.ensures.answer ∙ ap (λ b. (filling (G.start b) (G.step_t b) (G.step_s b) (G.agrees b) n).answer) e) c.in_default.is
          (c.fill.ensures.memory ∙ ap (λ b. (filling (G.start b) (G.step_t b) (G.step_s b) (G.agrees b) n).memory) e),
    )
