-- A matrix is a member exactly when its determinant is 1 and it has the congruences.
use Rattle.std.proofs.Common.{◌≡◌, pos, sym, ap, ◌∙◌, arith, of_z, eqb-true}
use borrow.Author.Differences.{ints}
use mir.Syntax.{w128}
use Rattle.modular.specs.Matrix.{entries}
use Rattle.jobs.specs.Objects.{kind_of, level_of}
use Rattle.jobs.proofs.Belonging.{action_member, is_level}
use Rattle.jobs.proofs.members.is_member.Goals as goal

pub returns-then-determinant-eq1 : goal.returns-then-determinant-eq1
returns-then-determinant-eq1 c =
    let j = c.args.job.now in
    let m = action_member (kind_of j.given) (level_of j.given) j.mirror (is_level j.given) (entries c.args.m) in
    let one : c.determinant.result ≡ pos 1 = omega (arith, ints) in
    let d = c.in_group.ensures in
    (λ t. m.1 (sym c.determinant.ensures ∙ one, d.0 t), λ h. d.1 (m.0 h).1)

pub returns-else-determinant-eq1 : goal.returns-else-determinant-eq1
returns-else-determinant-eq1 c =
    let j = c.args.job.now in
    let m = action_member (kind_of j.given) (level_of j.given) j.mirror (is_level j.given) (entries c.args.m) in
    (λ t. absurd (c.if-determinant-eq1.false (eqb-true _ _ t)), λ h. absurd (c.if-determinant-eq1.false (ap (of_z w128) (c.determinant.ensures ∙ (m.0 h).0))))
