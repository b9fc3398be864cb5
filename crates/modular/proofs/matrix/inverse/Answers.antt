-- The entries move, with two signs turned; both products are the determinant times the identity.
use Rattle.std.proofs.Common.{◌≡◌, pos, sym, refl, ◌∙◌, subst, arith, to_z-of_z, rules}
use borrow.Author.Differences.{ints}
use Rattle.modular.specs.Matrix.{Fits, entries, Undoes, det, inverted}
use Rattle.modular.proofs.Entries.{made_rows}
use Rattle.modular.proofs.Products.{inverted_undoes}
use Rattle.modular.proofs.matrix.inverse.Goals as goal

pub returns : goal.returns
returns c =
    let m = entries c.args.x in
    let x : Fits m = search rules in
    let b = simp (to_z-of_z x.b) at c.in_ok-checked_neg.ensures in
    let d = simp (to_z-of_z x.c) at c.in_ok-checked_neg-2.ensures in
    let one : det m ≡ pos 1 = sym c.determinant.ensures ∙ omega (arith, ints) in
    let f : Fits (inverted m) = record { a = x.d; b = b.0; c = d.0; d = x.a } in
    let e = made_rows (inverted m) _ _ _ _ f refl b.1 d.1 refl in
    record { value = (record { one = one; holds = f }, e); undoes = subst (λ r. Undoes m (entries r)) (sym e) (inverted_undoes m one) }
