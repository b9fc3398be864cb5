-- A step of Euclid's algorithm keeps the greatest common divisor.
use Rattle.std.proofs.Common.{◌≡◌, ℕ, zero, suc, ◌%◌, ◌<◌, ◌≤◌, refl, le_refl, mod-lt, arith}
use Rattle.numbers.specs.Gcd.{gcd, euclid}

-- more steps than needed change nothing
euclid_enough : (f g a b : ℕ) → b ≤ f → b ≤ g → euclid f a b ≡ euclid g a b
euclid_enough zero zero a b h k = refl
euclid_enough zero (suc g) a zero h k = refl
euclid_enough zero (suc g) a (suc b) h k = absurd (omega arith)
euclid_enough (suc f) zero a zero h k = refl
euclid_enough (suc f) zero a (suc b) h k = absurd (omega arith)
euclid_enough (suc f) (suc g) a zero h k = refl
euclid_enough (suc f) (suc g) a (suc b) h k =
    let r : a % suc b < suc b = mod-lt a (omega arith) in
    euclid_enough f g (suc b) (a % suc b) (omega arith) (omega arith)

pub gcd_step : (a b : ℕ) → 0 < b → gcd b (a % b) ≡ gcd a b
gcd_step a zero h = absurd (omega arith)
gcd_step a (suc b) h =
    let r : a % suc b < suc b = mod-lt a h in
    euclid_enough (a % suc b) b (suc b) (a % suc b) (le_refl (a % suc b)) (omega arith)
