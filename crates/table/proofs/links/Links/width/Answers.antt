-- The count is what the definition counts, step by step.
use Rattle.std.proofs.Common.{◌≡◌, suc, ◌+◌, ◌-◌, length, sym, ap, ◌∙◌, arith}
use Rattle.modular.specs.declared.letter.Letter.TheVariants.{T}
use Rattle.table.specs.Links.{next}
use Rattle.table.specs.Widths.{back}
use Rattle.table.proofs.Turns.{back_on}
use Rattle.table.proofs.links.Links.width.Goals as goal

pub loop-steps-preserved : goal.loop-steps-preserved
loop-steps-preserved c =
    let links = c.args.self.links.now in
    let k = c.loop-steps.steps in
    let at = c.loop-steps.at in
    let n = length links - k in
    let now-left : length links + 1 - k ≡ suc n = omega arith in
    let then-left : length links + 1 - (k + 1) ≡ n = omega arith in
    let more : k + 1 ≡ suc k = omega arith in
    (λ i. back links (then-left i) (next links T (c.next-at.ensures i)) c.args.row (more i))
    ∙ sym (ap (λ x. back links x (next links T at) c.args.row k) now-left ∙ back_on links n (next links T at) c.args.row k (λ e. c.if-at-row.false (c.next-at.ensures ∙ e)))
    ∙ c.loop-steps.invariant
