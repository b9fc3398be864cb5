-- Who is a member of an action that is a picture of the integer matrices.
use Rattle.std.proofs.Common.{◌≡◌, ◌↔◌, pos, sym, refl, ap, ◌∙◌}
use Rattle.modular.specs.Actions.{Member}
use Rattle.modular.specs.Matrix.{M2, det, identity}
use Rattle.modular.proofs.Products.{identity_left}
use Rattle.modular.proofs.Reaching.{has_word}
use Rattle.levels.specs.Levels.{Acts}
use Rattle.levels.specs.laws.Models.{Pictures, leads}

-- a matrix is a member exactly when its picture is that of the identity
pub member_is : {R : Type 0} {f : M2 → R} {t s : R → R} → Pictures f t s →
    (x : M2) → det x ≡ pos 1 → Member (f identity) t s x ↔ (f x ≡ f identity)
member_is {R} {f} {t} {s} k x e = (there, back)
  where
    there : Member (f identity) t s x → f x ≡ f identity
    there m = sym (ap f m.1) ∙ sym (ap f (identity_left _)) ∙ sym (leads k m.0 identity) ∙ m.2

    back : f x ≡ f identity → Member (f identity) t s x
    back q = let w = has_word x e in
        (w.0, w.1, leads k w.0 identity ∙ ap f (identity_left _) ∙ ap f w.1 ∙ q)

-- an action acts as itself
pub acts : {R : Type 0} (point : R → Type 0) (start : R) (t s : R → R) (In : M2 → Type 0) →
    ((x : M2) → det x ≡ pos 1 → Member start t s x ↔ In x) → Acts point start t s point start t s In
acts point start t s In m = record {
  points = λ r. (λ p. p, λ p. p);
  starts = refl;
  t_steps = λ r. refl;
  s_steps = λ r. refl;
  members = m;
}
