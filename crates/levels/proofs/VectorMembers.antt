-- The members of the action on vectors.
use Rattle.std.proofs.Common.{◌≡◌, ℕ, ◌↔◌, pos, ap}
use Rattle.numbers.specs.Residues.{Cong}
use Rattle.modular.specs.Actions.{Member}
use Rattle.modular.specs.Matrix.{M2, det}
use Rattle.levels.specs.Levels.{IsLevel}
use Rattle.levels.specs.Vectors.{VectorsAt, Primitive, first, sheared, turned}
use Rattle.levels.specs.laws.Residues.{from_cong, to_cong}
use Rattle.levels.specs.laws.Vectors.{same, lower_pictures}
use Rattle.levels.proofs.Members.{member_is, acts}

pub vectors_at : (n : ℕ) → IsLevel n → VectorsAt n (Primitive n) (first n) (sheared n) (turned n)
vectors_at n l = (l, acts (Primitive n) (first n) (sheared n) (turned n) (λ x. Cong n x.c (pos 0) × Cong n x.d (pos 1)) members)
  where
    members : (x : M2) → det x ≡ pos 1 → Member (first n) (sheared n) (turned n) x ↔ (Cong n x.c (pos 0) × Cong n x.d (pos 1))
    members x e = let h = l.0 in let k = member_is (lower_pictures n h) x e in (
      λ w. let q = k.0 w in (to_cong n h x.c (pos 0) (ap (λ v. v.c) q), to_cong n h x.d (pos 1) (ap (λ v. v.d) q)),
      λ c. k.1 (same (from_cong n h c.0) (from_cong n h c.1)),
    )
