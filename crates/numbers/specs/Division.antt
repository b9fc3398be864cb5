-- The truncating division of integers, by what quotient and remainder mean.
--     Quotient a c q r     q and r are the quotient, rounded towards zero, and the remainder of a by c
--     NoQuotient a c       a by c has no quotient among the numbers of 64 bits
use Rattle.std.specs.Prelude.{◌≡◌, ◌<◌, ◌⊎◌, ℤ, pos, negsuc, ◌+ℤ◌, ◌*ℤ◌, ◌≤ℤ◌, unsigned_abs}

-- r is 0 or has the sign of a
abbrev pub SignOf : ℤ → ℤ → Type 0
SignOf (pos m) r = pos 0 ≤ℤ r
SignOf (negsuc m) r = r ≤ℤ pos 0

pub record Quotient (a c q r : ℤ) : Type 0 where
  pub whole : a ≡ q *ℤ c +ℤ r
  pub small : unsigned_abs r < unsigned_abs c
  pub sign : SignOf a r

abbrev pub NoQuotient : ℤ → ℤ → Type 0
NoQuotient a c = (c ≡ pos 0) ⊎ ((a ≡ negsuc 9223372036854775807) × (c ≡ negsuc 0))
