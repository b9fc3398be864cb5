-- How large a number of 64 bits, and the product of two, is in 128.
use Rattle.std.proofs.Common.{ℕ, suc, ◌-◌, ◌*◌, ◌^◌, ◌<◌, ◌≤◌, ℤ, pos, negsuc, ◌*ℤ◌, mul-le-mul, arith, w64, SFits}
use borrow.Author.Differences.{up, down, neg_is, ints}
use mir.Syntax.{w128}

-- a product of two naturals, each within its bound
within : (m n h k : ℕ) → m ≤ h → n ≤ k → m * n ≤ h * k
within m n h k p q = mul-le-mul p q

-- the product lies above −2^126 and is at most 2^126
pub product_range : (a b : ℤ) → SFits w64 a → SFits w64 b → (up (a *ℤ b) ≤ 2 ^ 126) × (down (a *ℤ b) < 2 ^ 126)
product_range (pos m) (pos n) f g = omega (arith, within m n (2 ^ 63) (2 ^ 63) (omega (arith, f.sfits)) (omega (arith, g.sfits)))
product_range (pos m) (negsuc n) f g =
    omega (arith, neg_is (pos (m * suc n)), within m (suc n) (2 ^ 63 - 1) (2 ^ 63) (omega (arith, f.sfits)) (omega (arith, g.sfits)))
product_range (negsuc m) (pos n) f g =
    omega (arith, neg_is (pos (suc m * n)), within (suc m) n (2 ^ 63) (2 ^ 63 - 1) (omega (arith, f.sfits)) (omega (arith, g.sfits)))
product_range (negsuc m) (negsuc n) f g = omega (arith, within (suc m) (suc n) (2 ^ 63) (2 ^ 63) (omega (arith, f.sfits)) (omega (arith, g.sfits)))

pub product_fits : (a b : ℤ) → SFits w64 a → SFits w64 b → SFits w128 (a *ℤ b)
product_fits a b f g = let r = product_range a b f g in omega (arith, ints)

pub wider : (z : ℤ) → SFits w64 z → SFits w128 z
wider z f = omega (arith, ints)
