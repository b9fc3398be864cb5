-- The two lines of an origami job that glue its squares.
--     AllIn xs              each number of xs is at most a thousand million
--     RefusedRight xs f     the maker declines its first list, xs, and f holds its refusal
--     RefusedUp xs ys f     the maker declines its lists, xs and ys, and f holds its refusal
--     ReadsNumbers body r   what reading a list gives: numbers in range, or the fault of the first test that fails
--     ReadsRight body r     the same of any line of right that has this body
--     ReadsUp xs body r     the same of any line of up that has this body, behind the right list xs
use Rattle.std.specs.Prelude.{◌≡◌, ℕ, ◌<◌, ◌⊎◌, List, length, Ok, Err, vec_items, codes, Result, Vec, slice_index}
use Rattle.origami.specs.Listings.{DeclinedRight, Declined, listed}
use Rattle.origami.specs.declared.origami.Origami.{Origami}
use Rattle.origami.specs.declared.refusal.Refusal.{Refusal}
use Rattle.std.specs.declared.alloc.Global.{Global}
use Rattle.jobs.specs.Bytes.{Keyed}
use Rattle.jobs.specs.Format.{Bounded, unreadable}
use Rattle.jobs.specs.Line.{Line, Fails}
use Rattle.jobs.specs.Lists.{SaysList}
use Rattle.jobs.specs.declared.fault.Fault.{Fault}
use Rattle.jobs.specs.declared.fault.Fault.TheVariants as fault
use Rattle.jobs.specs.declared.fault.LineError.{LineError}
use Rattle.jobs.specs.declared.fault.LineError.TheVariants.{Faulty, Memory}

abbrev pub AllIn : List ℕ → Type 0
AllIn xs = (i : ℕ) → i < length xs → Bounded (slice_index xs i)

abbrev pub RefusedRight : List ℕ → Fault → Type 0
RefusedRight xs f = (e : Refusal) × DeclinedRight xs e × (f ≡ fault.Origami e)

abbrev pub RefusedUp : List ℕ → List ℕ → Fault → Type 0
RefusedUp xs ys f = (e : Refusal) × Declined xs ys e × (f ≡ fault.Origami e)

abbrev pub RightLine : List ℕ → List ℕ → List ℕ → Type 0
RightLine = Line (codes "right=") unreadable SaysList AllIn RefusedRight

abbrev pub RightFault : List ℕ → Fault → Type 0
RightFault = Fails (codes "right=") unreadable SaysList AllIn RefusedRight

-- the line of up behind the right list xs
abbrev pub UpLine : List ℕ → List ℕ → List ℕ → List ℕ → Type 0
UpLine xs = Line (codes "up=") unreadable SaysList AllIn (RefusedUp xs)

abbrev pub UpFault : List ℕ → List ℕ → Fault → Type 0
UpFault xs = Fails (codes "up=") unreadable SaysList AllIn (RefusedUp xs)

abbrev pub ReadsNumbers : List ℕ → Result (Vec ℕ Global) LineError → Type 0
ReadsNumbers body (Ok v) = SaysList body (vec_items v) × AllIn (vec_items v)
ReadsNumbers body (Err (Faulty f)) =
    ((f ≡ unreadable) × ((ns : List ℕ) → SaysList body ns → ⊥)) ⊎ ((f ≡ fault.Range) × (ns : List ℕ) × SaysList body ns × (AllIn ns → ⊥))
ReadsNumbers body (Err Memory) = Unit {0}

abbrev pub ReadsRight : List ℕ → Result (Vec ℕ Global) LineError → Type 0
ReadsRight body (Ok v) = (text rest : List ℕ) → Keyed (codes "right=") text body rest → RightLine text (vec_items v) rest
ReadsRight body (Err (Faulty f)) = (text rest : List ℕ) → Keyed (codes "right=") text body rest → RightFault text f
ReadsRight body (Err Memory) = Unit {0}

abbrev pub ReadsUp : List ℕ → List ℕ → Result Origami LineError → Type 0
ReadsUp xs body (Ok a) =
    (ys : List ℕ) × ((text rest : List ℕ) → Keyed (codes "up=") text body rest → UpLine xs text ys rest) × (a.gluing ≡ listed xs ys)
ReadsUp xs body (Err (Faulty f)) = (text rest : List ℕ) → Keyed (codes "up=") text body rest → UpFault xs text f
ReadsUp xs body (Err Memory) = Unit {0}
