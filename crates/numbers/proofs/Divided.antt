-- The machine's quotient and remainder are the truncating ones.
use Rattle.std.proofs.Common.{ℕ, zero, suc, ℤ, pos, negsuc, neg_ℤ, unsigned_abs, ◌<◌, ◌≤ℤ◌, ◌≢◌, sym, refl, arith, int_div, int_rem}
use Rattle.std.proofs.lemmas.Int.{quot-rem, rem_below}
use borrow.Author.Differences.{ints}
use Rattle.numbers.specs.Division.{Quotient, SignOf}

-- −(n) is at most 0
neg_low : (n : ℕ) → neg_ℤ (pos n) ≤ℤ pos 0
neg_low n = omega (arith, ints)

-- a remainder is 0, or has the sign of what is divided
sign_of_rem : (a c : ℤ) → SignOf a (int_rem a c)
sign_of_rem (pos m) (pos n) = omega (arith, ints)
sign_of_rem (pos m) (negsuc n) = omega (arith, ints)
sign_of_rem (negsuc m) (pos n) = neg_low _
sign_of_rem (negsuc m) (negsuc n) = neg_low _

-- a number other than 0 has a size
some_size : (c : ℤ) → c ≢ pos 0 → 0 < unsigned_abs c
some_size (pos zero) h = absurd (h refl)
some_size (pos (suc n)) h = omega arith
some_size (negsuc n) h = omega arith

-- quotient and remainder of a by any c but 0
pub divided : (a c : ℤ) → c ≢ pos 0 → Quotient a c (int_div a c) (int_rem a c)
divided a c h = record { whole = sym (quot-rem a c); small = rem_below a c (some_size c h); sign = sign_of_rem a c }
