-- Why an origami is not made.
--     number e    the number of a refusal
use Rattle.std.specs.Prelude.{ℕ}
use Rattle.origami.specs.declared.refusal.Refusal.{Refusal}
use Rattle.origami.specs.declared.refusal.Refusal.TheVariants.{Degree, NotPermutation, NotReached}

abbrev pub number : Refusal → ℕ
number Degree = 3
number NotPermutation = 4
number NotReached = 5
