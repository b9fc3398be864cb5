-- The rows of a finished table are the cosets of the members: M and N are in one coset where M times the inverse of N is a member.
--     CosetLaw start t s links     each matrix of determinant 1 is placed at a row, two at one row exactly when they are in one
--                                  coset, and each row is that of some matrix; so there are as many cosets as rows
use Rattle.std.specs.Prelude.{◌≡◌, ℕ, ◌<◌, ◌↔◌, List, length, pos}
use Rattle.modular.specs.Actions.{Member}
use Rattle.modular.specs.Matrix.{M2, det, inverted, ◌·◌}
use Rattle.table.specs.declared.link.Link.{Link}
use Rattle.table.specs.Placing.{placed}

pub record CosetLaw {R : Type 0} (start : R) (t s : R → R) (links : List Link) : Type 0 where
  pub row : (M : M2) → det M ≡ pos 1 → placed links M < length links
  pub one : (M N : M2) → det M ≡ pos 1 → det N ≡ pos 1 → (placed links M ≡ placed links N) ↔ Member start t s (M · inverted N)
  pub each : (r : ℕ) → r < length links → (M : M2) × (det M ≡ pos 1) × (placed links M ≡ r)
