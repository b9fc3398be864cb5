-- What the code holds of a numbering.
--     Holds x xs n    n holds the squares xs in the order of their numbers, x in each place behind them, and the number of each that has one
--     Room n y        y is a square below 16, and if it has no number yet there is a place for it
use Rattle.std.specs.Prelude.{◌≡◌, ℕ, ◌<◌, ◌≤◌, cond, List, Some, None, length, nat_lt, slice_index, slice_index_or}
use Rattle.origami.specs.declared.numbering.Numbering.{Numbering}
use Rattle.origami.specs.Squares.{place}

pub record Holds (x : ℕ) (xs : List ℕ) (n : Numbering) : Type 0 where
  pub few : length xs ≤ 16
  pub count_is : n.count ≡ length xs
  pub order_is : (k : ℕ) → k < 16 → slice_index n.order k ≡ slice_index_or xs k x
  pub number_is : (y : ℕ) → y < 16 → slice_index_or n.number y None ≡ cond (nat_lt (place y xs) (length xs)) (Some (place y xs)) None

abbrev pub Room : Numbering → ℕ → Type 0
Room n y = (y < 16) × (slice_index_or n.number y None ≡ None → n.count < 16)
