-- Each entry is a row times a column, and an entry that is declined does not fit.
use Rattle.std.proofs.Common.{to_z-of_z, rules}
use Rattle.modular.specs.Matrix.{Fits, entries, ◌·◌}
use Rattle.modular.proofs.Entries.{made_rows}
use Rattle.modular.proofs.matrix.product.Goals as goal

pub returns-in_err-dot : goal.returns-in_err-dot
returns-in_err-dot c =
    let x : Fits (entries c.args.x) = search rules in
    let y : Fits (entries c.args.y) = search rules in
    rw c.from_residual.ensures (λ f. c.in_err-dot.ensures (simp (to_z-of_z x.a, to_z-of_z x.b, to_z-of_z y.a, to_z-of_z y.c) f.a))

pub returns-in_err-dot-2 : goal.returns-in_err-dot-2
returns-in_err-dot-2 c =
    let x : Fits (entries c.args.x) = search rules in
    let y : Fits (entries c.args.y) = search rules in
    rw c.from_residual-in_err-dot-2.ensures (λ f. c.in_err-dot-2.ensures (simp (to_z-of_z x.a, to_z-of_z x.b, to_z-of_z y.b, to_z-of_z y.d) f.b))

pub returns-in_err-dot-3 : goal.returns-in_err-dot-3
returns-in_err-dot-3 c =
    let x : Fits (entries c.args.x) = search rules in
    let y : Fits (entries c.args.y) = search rules in
    rw c.from_residual-in_err-dot-3.ensures (λ f. c.in_err-dot-3.ensures (simp (to_z-of_z x.c, to_z-of_z x.d, to_z-of_z y.a, to_z-of_z y.c) f.c))

pub returns-in_err-dot-4 : goal.returns-in_err-dot-4
returns-in_err-dot-4 c =
    let x : Fits (entries c.args.x) = search rules in
    let y : Fits (entries c.args.y) = search rules in
    rw c.from_residual-in_err-dot-4.ensures (λ f. c.in_err-dot-4.ensures (simp (to_z-of_z x.c, to_z-of_z x.d, to_z-of_z y.b, to_z-of_z y.d) f.d))

pub returns : goal.returns
returns c =
    let x : Fits (entries c.args.x) = search rules in
    let y : Fits (entries c.args.y) = search rules in
    let a = simp (to_z-of_z x.a, to_z-of_z x.b, to_z-of_z y.a, to_z-of_z y.c) at c.in_ok-dot.ensures in
    let b = simp (to_z-of_z x.a, to_z-of_z x.b, to_z-of_z y.b, to_z-of_z y.d) at c.in_ok-dot-2.ensures in
    let p = simp (to_z-of_z x.c, to_z-of_z x.d, to_z-of_z y.a, to_z-of_z y.c) at c.in_ok-dot-3.ensures in
    let q = simp (to_z-of_z x.c, to_z-of_z x.d, to_z-of_z y.b, to_z-of_z y.d) at c.in_ok-dot-4.ensures in
    let f : Fits (entries c.args.x · entries c.args.y) = record { a = a.0; b = b.0; c = p.0; d = q.0 } in
    (f, made_rows _ _ _ _ _ f a.1 b.1 p.1 q.1)
