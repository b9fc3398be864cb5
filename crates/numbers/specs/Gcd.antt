-- The greatest common divisor of two natural numbers.
use Rattle.std.specs.Prelude.{ℕ, zero, suc, ◌%◌}

-- Euclid's algorithm, in at most as many steps as the first number says
abbrev pub euclid : ℕ → ℕ → ℕ → ℕ
euclid zero a b = a
euclid (suc f) a zero = a
euclid (suc f) a (suc b) = euclid f (suc b) (a % suc b)

abbrev pub gcd : ℕ → ℕ → ℕ
gcd a b = euclid b a b
