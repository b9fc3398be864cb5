-- Neither product is as low as −2^126, so their difference fits.
use Rattle.std.proofs.Common.{◌≡◌, ◌-ℤ◌, ◌*ℤ◌, ap, ◌∙◌, arith, to_z-of_z, w64, SFits, rules}
use borrow.Author.Differences.{ints}
use mir.Syntax.{w128}
use Rattle.modular.specs.Matrix.{entry}
use Rattle.modular.proofs.Wide.{product_range}
use Rattle.modular.proofs.matrix.determinant.Goals as goal

-- the two products, and that their difference fits
parts : (c : goal.After-wide-2) → (c.wide.result ≡ entry c.args.m 0 0 *ℤ entry c.args.m 1 1) × (c.wide-2.result ≡ entry c.args.m 0 1 *ℤ entry c.args.m 1 0) × SFits w128 (c.wide.result -ℤ c.wide-2.result)
parts c =
    let m = c.args.m in
    let fa : SFits w64 (entry m 0 0) = search rules in
    let fb : SFits w64 (entry m 0 1) = search rules in
    let fc : SFits w64 (entry m 1 0) = search rules in
    let fd : SFits w64 (entry m 1 1) = search rules in
    let ad : c.wide.result ≡ entry m 0 0 *ℤ entry m 1 1 = simp (to_z-of_z fa, to_z-of_z fd) at c.wide.ensures in
    let bc : c.wide-2.result ≡ entry m 0 1 *ℤ entry m 1 0 = simp (to_z-of_z fb, to_z-of_z fc) at c.wide-2.ensures in
    (ad, bc, omega (arith, ints, product_range _ _ fa fd, product_range _ _ fb fc))

pub overflow_sub-result : goal.overflow_sub-result
overflow_sub-result c =
    let g : SFits w128 c.wide.result = record { sfits = c.wide.type_inv } in
    let h : SFits w128 c.wide-2.result = record { sfits = c.wide-2.type_inv } in
    simp (to_z-of_z g, to_z-of_z h) (parts c).2

pub returns : goal.returns
returns c =
    let p = parts c in
    let f = p.2 in
    let g : SFits w128 c.wide.result = record { sfits = c.wide.type_inv } in
    let h : SFits w128 c.wide-2.result = record { sfits = c.wide-2.type_inv } in
    simp (to_z-of_z g, to_z-of_z h, to_z-of_z f) (ap (λ x. x -ℤ c.wide-2.result) p.0 ∙ ap (λ x. entry c.args.m 0 0 *ℤ entry c.args.m 1 1 -ℤ x) p.1)
