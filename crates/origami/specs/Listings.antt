-- The two lists that an origami is made from: they give for each square what is right of it and what is above it, and squares count from 1.
--     target xs i        the square that xs gives for the square i, both counted from 0
--     FitDegree xs       xs gives 1 to 16 squares
--     Lists d xs         xs lists 1 to d once each
--     FitRight xs        what the maker asks of its first list alone
--     DeclinedRight xs e   e is the first of these tests that it fails
--     listed xs ys       the gluing of the lists
--     AllReached g       each square of g is reached from square 0
--     Accepted xs ys     what the maker asks of its lists
--     Declined xs ys e   e is the first of its tests that the lists fail
use Rattle.std.specs.Prelude.{◌≡◌, ℕ, ◌-◌, ◌<◌, ◌≤◌, List, length, slice_index}
use Rattle.origami.specs.declared.gluing.Gluing.{Gluing}
use Rattle.origami.specs.declared.refusal.Refusal.{Refusal}
use Rattle.origami.specs.declared.refusal.Refusal.TheVariants.{Degree, NotPermutation, NotReached}
use Rattle.origami.specs.Gluings.{right_of, up_of, padded}
use Rattle.origami.specs.Squares.{Reached}

abbrev pub target : List ℕ → ℕ → ℕ
target xs i = slice_index xs i - 1

abbrev pub FitDegree : List ℕ → Type 0
FitDegree xs = (1 ≤ length xs) × (length xs ≤ 16)

pub record Lists (d : ℕ) (xs : List ℕ) : Type 0 where
  pub long : length xs ≡ d
  pub within : (i : ℕ) → i < d → (1 ≤ slice_index xs i) × (slice_index xs i ≤ d)
  pub once : (i j : ℕ) → i < d → j < d → slice_index xs i ≡ slice_index xs j → i ≡ j

abbrev pub FitRight : List ℕ → Type 0
FitRight xs = FitDegree xs × Lists (length xs) xs

abbrev pub DeclinedRight : List ℕ → Refusal → Type 0
DeclinedRight xs Degree = FitDegree xs → ⊥
DeclinedRight xs NotPermutation = FitDegree xs × (Lists (length xs) xs → ⊥)
DeclinedRight xs NotReached = ⊥

abbrev pub listed : List ℕ → List ℕ → Gluing
listed xs ys = record { degree = length xs; right = padded (length xs) (target xs); up = padded (length xs) (target ys) }

abbrev pub AllReached : Gluing → Type 0
AllReached g = (i : ℕ) → i < g.degree → Reached (right_of g) (up_of g) i

pub record Accepted (xs ys : List ℕ) : Type 0 where
  pub fit : FitDegree xs
  pub rights : Lists (length xs) xs
  pub ups : Lists (length xs) ys
  pub reached : AllReached (listed xs ys)

abbrev pub Declined : List ℕ → List ℕ → Refusal → Type 0
Declined xs ys Degree = FitDegree xs → ⊥
Declined xs ys NotPermutation = FitDegree xs × (Lists (length xs) xs × Lists (length xs) ys → ⊥)
Declined xs ys NotReached = FitDegree xs × Lists (length xs) xs × Lists (length xs) ys × (AllReached (listed xs ys) → ⊥)
