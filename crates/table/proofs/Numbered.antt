-- The order of words as an order of numbers.
use Rattle.std.proofs.Common.{◌≡◌, ℕ, ◌+◌, ◌*◌, ◌<◌, ◌≤◌, List, [], ◌∷◌, ◌++◌, length, refl, inl, inr, arith}
use native.Mathlib.Decide.{dec_lt}
use Rattle.modular.specs.declared.letter.Letter.{Letter}
use Rattle.modular.specs.declared.letter.Letter.TheVariants.{T, S}
use Rattle.table.specs.Order.{Earlier, Less}

abbrev pub bit : Letter → ℕ
bit T = 0
bit S = 1

-- the number of a word after one with the number n
abbrev pub onto : ℕ → List Letter → ℕ
onto n [] = n
onto n (g ∷ w) = onto (2 * n + bit g) w

-- a word as a number in base 2, behind a leading 1
abbrev pub num : List Letter → ℕ
num w = onto 1 w

pub onto_append : (n : ℕ) (u v : List Letter) → onto n (u ++ v) ≡ onto (onto n u) v
onto_append n [] v = refl
onto_append n (g ∷ u) v = onto_append (2 * n + bit g) u v

pub num_snoc : (w : List Letter) (g : Letter) → num (w ++ g ∷ []) ≡ 2 * num w + bit g
num_snoc w g = onto_append 1 w (g ∷ [])

pub bit_small : (g : Letter) → bit g ≤ 1
bit_small T = omega arith
bit_small S = omega arith

-- of words of one length the one behind the smaller number is smaller
same_length : (m n : ℕ) (u v : List Letter) → length u ≡ length v → m < n → onto m u < onto n v
same_length m n [] [] e h = h
same_length m n [] (g ∷ v) e h = absurd (omega arith)
same_length m n (g ∷ u) [] e h = absurd (omega arith)
same_length m n (f ∷ u) (g ∷ v) e h = same_length (2 * m + bit f) (2 * n + bit g) u v (omega arith) (omega (arith, bit_small f))

-- a shorter word is smaller
shorter : (m n : ℕ) (u v : List Letter) → length u < length v → m < 2 * n → onto m u < onto n v
shorter m n u [] h k = absurd (omega arith)
shorter m n u (g ∷ v) h k = elim (dec_lt (length u) (length v)) [
  | yes l ↦ shorter m (2 * n + bit g) u v l (omega arith)
  | no l ↦ same_length m (2 * n + bit g) u v (omega arith) (omega arith)
]

-- of words of one length the earlier one is smaller
earlier_smaller : (n : ℕ) (u v : List Letter) → length u ≡ length v → Earlier u v → onto n u < onto n v
earlier_smaller n [] v e h = absurd h
earlier_smaller n (g ∷ u) [] e h = absurd h
earlier_smaller n (T ∷ u) (T ∷ v) e h = earlier_smaller (2 * n + 0) u v (omega arith) h
earlier_smaller n (T ∷ u) (S ∷ v) e h = same_length (2 * n + 0) (2 * n + 1) u v (omega arith) (omega arith)
earlier_smaller n (S ∷ u) (T ∷ v) e h = absurd h
earlier_smaller n (S ∷ u) (S ∷ v) e h = earlier_smaller (2 * n + 1) u v (omega arith) h

smaller_earlier : (n : ℕ) (u v : List Letter) → length u ≡ length v → onto n u < onto n v → Earlier u v
smaller_earlier n [] [] e h = absurd (omega arith)
smaller_earlier n [] (g ∷ v) e h = absurd (omega arith)
smaller_earlier n (g ∷ u) [] e h = absurd (omega arith)
smaller_earlier n (T ∷ u) (T ∷ v) e h = smaller_earlier (2 * n + 0) u v (omega arith) h
smaller_earlier n (T ∷ u) (S ∷ v) e h = tt
smaller_earlier n (S ∷ u) (T ∷ v) e h = let k = same_length (2 * n + 0) (2 * n + 1) v u (omega arith) (omega arith) in absurd (omega arith)
smaller_earlier n (S ∷ u) (S ∷ v) e h = smaller_earlier (2 * n + 1) u v (omega arith) h

-- the order of words is the order of their numbers
pub less_num : (u v : List Letter) → Less u v → num u < num v
less_num u v (inl l) = shorter 1 1 u v l (omega arith)
less_num u v (inr p) = earlier_smaller 1 u v p.0 p.1

pub num_less : (u v : List Letter) → num u < num v → Less u v
num_less u v h = elim (dec_lt (length u) (length v)) [
  | yes l ↦ inl l
  | no l ↦ elim (dec_lt (length v) (length u)) [
    | yes k ↦ let b = shorter 1 1 v u k (omega arith) in absurd (omega arith)
    | no k ↦ let e : length u ≡ length v = omega arith in inr (e, smaller_earlier 1 u v e h)
  ]
]
