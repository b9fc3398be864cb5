-- Levels, and what the maker of a level action promises.
--     IsLevel n             n is a number from 1 to 200
--     number e              the number of a refusal
--     Declined n e          e is why n is no level
--     Acts point start ..   what an action is, and who its members are
use Rattle.std.specs.Prelude.{◌≡◌, ℕ, ◌<◌, ◌≤◌, ◌↔◌, pos}
use Rattle.modular.specs.Actions.{Member}
use Rattle.modular.specs.Matrix.{M2, det}
use Rattle.levels.specs.declared.level.Refusal.{Refusal}
use Rattle.levels.specs.declared.level.Refusal.TheVariants.{OutOfRange}

abbrev pub IsLevel : ℕ → Type 0
IsLevel n = (0 < n) × (n ≤ 200)

abbrev pub number : Refusal → ℕ
number OutOfRange = 3

abbrev pub Declined : ℕ → Refusal → Type 0
Declined n e = (e ≡ OutOfRange) × (IsLevel n → ⊥)

-- the action with the points, the first record and the steps point, start, t and s is the one that the next four describe,
-- and a matrix of determinant 1 is a member of it exactly when In holds of it
pub record Acts {R : Type 0} (point : R → Type 0) (start : R) (t s : R → R)
    (IsPoint : R → Type 0) (first : R) (t_step s_step : R → R) (In : M2 → Type 0) : Type 0 where
  pub points : (r : R) → point r ↔ IsPoint r
  pub starts : start ≡ first
  pub t_steps : (r : R) → t r ≡ t_step r
  pub s_steps : (r : R) → s r ≡ s_step r
  pub members : (x : M2) → det x ≡ pos 1 → Member start t s x ↔ In x
