use Rattle.std.proofs.Common.{◌+◌, ◌-◌, ◌/◌, ◌%◌, pos, neg_ℤ, mod-lt, arith}
use native.Mathlib.Nat.{mod-add-div'}
use borrow.Author.Differences.{ints}
use Rattle.levels.specs.laws.Residues.{from_cong}
use Rattle.levels.proofs.level.Level.negative.Goals as goal

-- n less the residue of x is a multiple of n away from −x
pub returns : goal.returns
returns c =
    let n = c.args.self.n in
    let x = c.args.x in
    let h = c.args.self.ok.0 in
    from_cong n h {x = pos (n - x % n)} {y = neg_ℤ (pos x)}
    (record { factor = pos (1 + x / n); apart = omega (arith, ints, mod-lt x h, mod-add-div' x n) })
