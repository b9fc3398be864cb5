-- Lists of numbers, with commas between them.
--     SaysList body ns      the body is the fields of the numbers ns, in order, with a comma between neighbours
--     capped_all ns          the numbers as they are read, up to the cap
--     ReadsList body r      what reading gives: the list that the body says, or that it is unreadable; or nothing, for want of memory
use Rattle.std.specs.Prelude.{◌≡◌, ℕ, min, List, [], ◌∷◌, ◌++◌, map, Ok, Err, vec_items, Result, Vec}
use Rattle.std.specs.declared.alloc.Global.{Global}
use Rattle.jobs.specs.Format.{SaysLevel, unreadable}
use Rattle.jobs.specs.declared.fault.LineError.{LineError}
use Rattle.jobs.specs.declared.fault.LineError.TheVariants.{Faulty, Memory}

abbrev pub SaysList : List ℕ → List ℕ → Type 0
SaysList body [] = ⊥
SaysList body (n ∷ []) = SaysLevel body n
SaysList body (n ∷ m ∷ ns) = (field : List ℕ) × (rest : List ℕ) × (body ≡ field ++ 44 ∷ rest) × SaysLevel field n × SaysList rest (m ∷ ns)

abbrev pub capped_all : List ℕ → List ℕ
capped_all ns = map (λ n. min n 1000000001) ns

abbrev pub ReadsList : List ℕ → Result (Vec ℕ Global) LineError → Type 0
ReadsList body (Ok v) = (ns : List ℕ) × SaysList body ns × (vec_items v ≡ capped_all ns)
ReadsList body (Err (Faulty f)) = (f ≡ unreadable) × ((ns : List ℕ) → SaysList body ns → ⊥)
ReadsList body (Err Memory) = Unit {0}
