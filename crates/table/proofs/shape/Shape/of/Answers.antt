-- Each count is at most the number of rows, so nothing wraps.
use Rattle.std.proofs.Common.{◌≡◌, ◌+◌, ◌*◌, length, pos, ◌-ℤ◌, ◌∙◌, arith, to_z-of_z, w64, SFits, to_z}
use borrow.Author.Differences.{ints}
use Rattle.std.proofs.lemmas.Int.{to_z_pos}
use Rattle.table.proofs.shape.Shape.of.Goals as goal

pub returns : goal.returns
returns c =
    let n = c.from-rows.result in
    let e : n ≡ length c.args.links.links.now = omega arith in
    let fits : SFits w64 (to_z w64 (12 + n) -ℤ to_z w64 (3 * c.e2-e2.result + 4 * c.e3-e3.result + 6 * c.cusps-cusps.result)) = omega (arith, ints) in
    let cast = to_z_pos w64 (12 + n) (omega arith) in
    let cast-2 = to_z_pos w64 (3 * c.e2-e2.result + 4 * c.e3-e3.result + 6 * c.cusps-cusps.result) (omega arith) in
    let genus = to_z-of_z fits ∙ (λ i. cast i -ℤ cast-2 i) ∙ (λ i. pos (12 + e i) -ℤ pos (3 * c.e2-e2.ensures.value i + 4 * c.e3-e3.ensures.value i + 6 * c.cusps-cusps.ensures.value i)) in
    λ i. record { rows = e i; cusps = c.cusps-cusps.ensures.value i; e2 = c.e2-e2.ensures.value i; e3 = c.e3-e3.ensures.value i; genus12 = genus i }
