-- The steps are as many as the power leaves modulo the width.
use Rattle.std.proofs.Common.{◌≡◌, ℕ, ◌<◌, ◌≤◌, List, length, pos, nat_abs, refl, ap, ◌∙◌, arith, to_z-of_z, w64, to_z, rules}
use Rattle.std.proofs.lemmas.Iterator.{YieldsList-from_range}
use Rattle.std.proofs.lemmas.Iterator.Consumers.{fold_from_yields_List}
use borrow.Author.Differences.{ints}
use Rattle.std.specs.Int.{int_rem_euclid}
use Rattle.modular.specs.declared.letter.Letter.TheVariants.{T}
use Rattle.numbers.specs.Residues.{residue}
use Rattle.numbers.proofs.Congruence.{residue_rem}
use Rattle.table.specs.declared.link.Link.{Link}
use Rattle.table.specs.Links.{next}
use Rattle.table.specs.Widths.{times, width}
use Rattle.table.proofs.Turns.{width_range, fold_times}
use Rattle.table.proofs.links.Links.t_steps.Goals as goal

-- a width is from 1 to 65,001
in_range : (links : List Link) (row w : ℕ) → length links ≤ 65000 → w ≡ width links row → (0 < w) × (w ≤ 65001)
in_range links row w h e = let r = width_range links row in (omega arith, omega arith)

pub overflow_cast-width : goal.overflow_cast-width
overflow_cast-width c = let r = in_range c.args.self.links.now c.args.row _ c.args.self.few c.width.ensures in omega (arith, ints)

pub rem_euclid-steps-requires : goal.rem_euclid-steps-requires
rem_euclid-steps-requires c =
    let r = in_range c.args.self.links.now c.args.row _ c.args.self.few c.width.ensures in
    record { nonzero = omega (arith, ints); no_overflow = λ e. absurd (omega (arith, ints)) }

pub returns : goal.returns
returns c =
    let links = c.args.self.links.now in
    let n = nat_abs c.rem_euclid-steps.result in
    let r = in_range links c.args.row _ c.args.self.few c.width.ensures in
    let wide : to_z w64 c.width.result ≡ pos c.width.result = omega (arith, ints) in
    let left = c.rem_euclid-steps.ensures.value ∙ (λ i. int_rem_euclid (to_z-of_z c.ranges.power i) (wide i)) ∙ residue_rem c.width.result c.args.power in
    fold_from_yields_List _ (λ q k. next links T q) c.args.row _ c.fold.ensures.ran (YieldsList-from_range 0 _ n refl (omega (arith, ints))) (λ a x b q k. search rules)
    ∙ fold_times (next links T) n 0 c.args.row
    ∙ ap (λ n. times n (next links T) c.args.row) (ap nat_abs left ∙ ap (λ w. residue w c.args.power) c.width.ensures)
