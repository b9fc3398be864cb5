-- A sum that does not fit 128 bits does not fit 64.
use Rattle.std.proofs.Common.{◌≡◌, ℤ, ◌*ℤ◌, Ok, Err, Result, sym, ◌∙◌, subst, arith, to_z-of_z, w64, SFits}
use borrow.Author.Differences.{ints}
use Rattle.std.specs.declared.num.TryFromIntError.{TryFromIntError}
use Rattle.std.specs.Option.{SomeIff}
use Rattle.std.specs.Result.{OkIff, result_ok}
use Rattle.modular.proofs.matrix.dot.Goals as goal

pub returns-in_err-sum : goal.returns-in_err-sum
returns-in_err-sum c =
    let p : c.wide.result ≡ c.args.a *ℤ c.args.e = simp (to_z-of_z c.ranges.a, to_z-of_z c.ranges.e) at c.wide.ensures in
    let q : c.wide-2.result ≡ c.args.b *ℤ c.args.g = simp (to_z-of_z c.ranges.b, to_z-of_z c.ranges.g) at c.wide-2.ensures in
    rw c.from_residual.ensures (λ f. c.in_err-sum.ensures (omega (arith, ints)))

-- what fits is answered, and what does not is declined
converted : (r : Result ℤ TryFromIntError) (v w : ℤ) → v ≡ w → OkIff r (SFits w64 v) v → SomeIff (result_ok r) (SFits w64 w) w
converted (Ok x) v w e h = (subst (SFits w64) e h.0, h.1 ∙ e)
converted (Err x) v w e h = λ f. h (subst (SFits w64) (sym e) f)

pub returns : goal.returns
returns c =
    let p : c.wide.result ≡ c.args.a *ℤ c.args.e = simp (to_z-of_z c.ranges.a, to_z-of_z c.ranges.e) at c.wide.ensures in
    let q : c.wide-2.result ≡ c.args.b *ℤ c.args.g = simp (to_z-of_z c.ranges.b, to_z-of_z c.ranges.g) at c.wide-2.ensures in
    let s = c.in_ok-sum.ensures.1 in
    rw c.ok.ensures.value (converted c.try_from.result _ _ (omega (arith, ints)) c.try_from.ensures)
