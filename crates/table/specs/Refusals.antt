-- The numbers of the refusals, and their places.
use Rattle.std.specs.Prelude.{ℕ}
use Rattle.table.specs.declared.refusal.Refusal.{Refusal}
use Rattle.table.specs.declared.refusal.Refusal.TheVariants.{Range, Determinant, Memory, NoFreeRow, NoEdgeLeft, Unfilled, Unsound, NotALetter, EmptyEdge, Length, NoSuch, Wide}

abbrev pub number_of : Refusal → ℕ
number_of Range = 3
number_of Determinant = 6
number_of Memory = 7
number_of NoFreeRow = 8
number_of NoEdgeLeft = 9
number_of Unfilled = 10
number_of Unsound = 11
number_of (NotALetter k) = 12
number_of (EmptyEdge k) = 13
number_of Length = 14
number_of NoSuch = 15
number_of Wide = 16

abbrev pub place_of : Refusal → ℕ
place_of Range = 0
place_of Determinant = 0
place_of Memory = 0
place_of NoFreeRow = 0
place_of NoEdgeLeft = 0
place_of Unfilled = 0
place_of Unsound = 0
place_of (NotALetter k) = k
place_of (EmptyEdge k) = k
place_of Length = 0
place_of NoSuch = 0
place_of Wide = 0
