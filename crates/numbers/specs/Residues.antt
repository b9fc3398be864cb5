-- Congruence of integers modulo a natural number, and the least residue.
use Rattle.std.specs.Prelude.{◌≡◌, ℕ, ◌-◌, ◌%◌, ℤ, pos, negsuc, ◌+ℤ◌, ◌*ℤ◌}

-- x and y differ by a multiple of n
pub record Cong (n : ℕ) (x y : ℤ) : Type 0 where
  pub factor : ℤ
  pub apart : x ≡ y +ℤ factor *ℤ pos n

-- the number from 0 to n - 1 that z is congruent to, for n > 0
abbrev pub residue : ℕ → ℤ → ℕ
residue n (pos a) = a % n
residue n (negsuc a) = n - 1 - a % n
