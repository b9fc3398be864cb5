-- Numbers are congruent where their remainders are equal.
use Rattle.std.proofs.Common.{arith, to_z-of_z, w64, SFits, rules}
use Rattle.jobs.proofs.Belonging.{same_bits, modulo_zero, same_remainders}
use Rattle.jobs.proofs.members.congruent.Goals as goal

pub returns-then-n-eq0 : goal.returns-then-n-eq0
returns-then-n-eq0 c =
    let s = same_bits c.args.x c.args.y c.ranges.x c.ranges.y in
    let z = modulo_zero c.args.n c.args.x c.args.y c.if-n-eq0.true in
    (λ t. z.0 (s.0 t), λ h. s.1 (z.1 h))

pub returns : goal.returns
returns c =
    let f : SFits w64 c.rem_euclid.result = search rules in
    let g : SFits w64 c.rem_euclid-2.result = search rules in
    let h : SFits w64 c.from-n.result = search rules in
    let s = same_bits c.rem_euclid.result c.rem_euclid-2.result f g in
    let p = simp (to_z-of_z c.ranges.x, to_z-of_z h) at c.rem_euclid.ensures.value in
    let q = simp (to_z-of_z c.ranges.y, to_z-of_z h) at c.rem_euclid-2.ensures.value in
    let z = same_remainders c.args.n c.args.x c.args.y c.from-n.result _ _ (omega arith) c.from-n.ensures p q in
    (λ t. z.0 (s.0 t), λ h. s.1 (z.1 h))
