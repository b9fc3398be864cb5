-- The members of the action on matrices.
use Rattle.std.proofs.Common.{◌≡◌, ℕ, ◌↔◌, pos, ap}
use Rattle.modular.specs.Actions.{Member}
use Rattle.modular.specs.Matrix.{M2, det}
use Rattle.levels.specs.Levels.{IsLevel}
use Rattle.levels.specs.Matrices.{MatricesAt, Principal, Unimodular, first, sheared, turned, at}
use Rattle.levels.specs.laws.Matrices.{same, reduced_pictures}
use Rattle.levels.specs.laws.Residues.{from_cong, to_cong}
use Rattle.levels.proofs.Members.{member_is, acts}

pub matrices_at : (n : ℕ) → IsLevel n → MatricesAt n (Unimodular n) (first n) (sheared n) (turned n)
matrices_at n l = (l, acts (Unimodular n) (first n) (sheared n) (turned n) (Principal n) members)
  where
    members : (x : M2) → det x ≡ pos 1 → Member (first n) (sheared n) (turned n) x ↔ Principal n x
    members x e = let h = l.0 in let k = member_is (reduced_pictures n h) x e in (
      λ w. let q = k.0 w in record {
        a_one = to_cong n h x.a (pos 1) (ap (λ m. at m 0 0) q);
        b_zero = to_cong n h x.b (pos 0) (ap (λ m. at m 0 1) q);
        c_zero = to_cong n h x.c (pos 0) (ap (λ m. at m 1 0) q);
        d_one = to_cong n h x.d (pos 1) (ap (λ m. at m 1 1) q);
      },
      λ c. k.1 (same (from_cong n h c.a_one) (from_cong n h c.b_zero) (from_cong n h c.c_zero) (from_cong n h c.d_one)),
    )
