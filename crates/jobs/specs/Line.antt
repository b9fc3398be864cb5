-- A line of a job: its key, what its body says, and the first test that it fails.
--     Line text x rest     the first line of text says x and passes every test, and rest comes after it
--     Fails text f         the first line of text has the fault f by the first test that it fails
-- over the key of the line and
--     Says body x          the body says x; a body that says nothing has the fault u
--     InRange x            the numbers of x are in range
--     Refused x f          x is in range, and its maker declines it with the fault f
use Rattle.std.specs.Prelude.{ℕ, List}
use Rattle.jobs.specs.Bytes.{Keyed, Unkeyed}
use Rattle.jobs.specs.declared.fault.Fault.{Fault}
use Rattle.jobs.specs.declared.fault.Fault.TheVariants.{Form, Range}

module _ {X : Type 0} (key : List ℕ) (u : Fault) (Says : List ℕ → X → Type 0) (InRange : X → Type 0) (Refused : X → Fault → Type 0) where
  pub record Line (text : List ℕ) (x : X) (rest : List ℕ) : Type 0 where
    pub body : List ℕ
    pub keyed : Keyed key text body rest
    pub says : Says body x
    pub range : InRange x
    pub made : (f : Fault) → Refused x f → ⊥

  pub data Fails (text : List ℕ) : Fault → Type 0 where
    form : Unkeyed key text → Fails text Form
    unread : (body rest : List ℕ) → Keyed key text body rest → ((x : X) → Says body x → ⊥) → Fails text u
    range : (body rest : List ℕ) (x : X) → Keyed key text body rest → Says body x → (InRange x → ⊥) → Fails text Range
    refused : (body rest : List ℕ) (x : X) (f : Fault) → Keyed key text body rest → Says body x → InRange x → Refused x f → Fails text f
