-- The machine's division is the truncating one, where it fits.
use Rattle.std.proofs.Common.{arith, sym, subst, ◌<◌, pos, ◌≢◌, of_z, to_z-of_z, w64, FitsSigned, int_rem}
use Rattle.std.specs.Int.{CanDivide}
use lib.Signed.{mag_rem}
use Rattle.numbers.proofs.Divided.{divided}
use Rattle.numbers.proofs.divide.Goals as goal

pub returns : goal.returns
returns c =
    let a = c.args.a in
    let b = c.args.c in
    let d = c.in_ok-checked_div.ensures in
    let there : CanDivide w64 a b = rw (sym (to_z-of_z c.ranges.a)) (rw (sym (to_z-of_z c.ranges.c)) d.0) in
    let r : FitsSigned w64 (int_rem a b) = record { sfits = omega (arith, mag_rem a b, c.ranges.a.sfits) } in
    let other : b ≢ pos 0 = λ e. (let none : 0 < of_z w64 (pos 0) = subst (λ x. 0 < of_z w64 x) e there.0 in omega (arith, none)) in
    simp (d.1, c.in_ok-checked_rem.ensures.1, to_z-of_z c.ranges.a, to_z-of_z c.ranges.c, to_z-of_z there.1, to_z-of_z r) (divided a b other)
