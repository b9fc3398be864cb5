-- How bytes spell numbers in decimal.
--     Digits ds       ds is digits, at least one
--     value ds        the number that the digits ds spell
--     Spells f z      the field f spells the integer z: digits, or a minus and digits
use Rattle.std.specs.Prelude.{◌≡◌, ℕ, ◌+◌, ◌-◌, ◌*◌, ◌<◌, ◌≤◌, min, ◌⊎◌, List, ◌∷◌, length, ℤ, pos, negsuc, neg_ℤ, fold, slice_index}

pub record Digits (ds : List ℕ) : Type 0 where
  pub some : 0 < length ds
  pub each : (k : ℕ) → k < length ds → (48 ≤ slice_index ds k) × (slice_index ds k ≤ 57)

-- the most significant digit comes first
abbrev pub value : List ℕ → ℕ
value ds = fold (λ n b. 10 * n + (b - 48)) 0 ds

abbrev pub Spells : List ℕ → ℤ → Type 0
Spells f z = (Digits f × (z ≡ pos (value f))) ⊎ ((ds : List ℕ) × (f ≡ 45 ∷ ds) × Digits ds × (z ≡ neg_ℤ (pos (value ds))))

-- a number, or the nearest one that is one past a thousand million either side of 0
abbrev pub capped : ℤ → ℤ
capped (pos n) = pos (min n 1000000001)
capped (negsuc n) = negsuc (min n 1000000000)
