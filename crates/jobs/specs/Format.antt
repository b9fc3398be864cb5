-- The lines of a job, one kind after the other.
use Rattle.std.specs.Prelude.{◌≡◌, ℕ, ◌<◌, ◌≤◌, Bool, true, false, List, ◌∷◌, ◌++◌, ℤ, pos, codes, ◌≢◌, unsigned_abs}
use Rattle.jobs.specs.Line.{Line, Fails}
use Rattle.jobs.specs.Numbers.{Digits, value, Spells}
use Rattle.jobs.specs.declared.job.Kind.{Kind}
use Rattle.jobs.specs.declared.job.Kind.TheVariants.{Lines, Vectors, Matrices}
use Rattle.jobs.specs.declared.job.Subject.{Subject}
use Rattle.jobs.specs.declared.job.Subject.TheVariants.{Level, Origami}
use Rattle.jobs.specs.declared.fault.Fault.{Fault}
use Rattle.jobs.specs.declared.fault.Fault.TheVariants as fault
use Rattle.jobs.specs.declared.fault.FieldFault.TheVariants.{Unreadable}
use Rattle.jobs.specs.declared.fault.MatrixFault.TheVariants.{Determinant}
use Rattle.levels.specs.Levels.{Declined}
use Rattle.levels.specs.declared.level.Refusal.{Refusal}
use Rattle.modular.specs.Matrix.{M2, det}

-- the tests that a kind of line does not have
abbrev pub Any : {X : Type 0} → X → Type 0
Any x = Unit {0}

abbrev pub Never : {X : Type 0} → X → Fault → Type 0
Never x f = ⊥

-- the fault of a field that is no number
abbrev pub unreadable : Fault
unreadable = fault.Field Unreadable

-- a number with no sign is at most a thousand million
abbrev pub Bounded : ℕ → Type 0
Bounded n = n ≤ 1000000000

abbrev pub kind_name : Kind → List ℕ
kind_name Lines = codes "lines"
kind_name Vectors = codes "vectors"
kind_name Matrices = codes "matrices"

abbrev pub subject_name : Subject → List ℕ
subject_name (Level k) = kind_name k
subject_name Origami = codes "origami"

-- what a first line can name: every subject, or the kinds of level action alone (Level); each is the subject that it is told by
abbrev pub every : Subject → Subject
every s = s

module _ {S : Type 0} (subject : S → Subject) where
  abbrev pub SaysKind : List ℕ → S → Type 0
  SaysKind body s = body ≡ subject_name (subject s)

  abbrev pub KindLine : List ℕ → S → List ℕ → Type 0
  KindLine = Line (codes "kind=") fault.Form SaysKind Any Never

  abbrev pub KindFault : List ℕ → Fault → Type 0
  KindFault = Fails (codes "kind=") fault.Form SaysKind Any Never

abbrev pub SaysLevel : List ℕ → ℕ → Type 0
SaysLevel body n = Digits body × (n ≡ value body)

-- the maker of a level action declines it
abbrev pub RefusedLevel : ℕ → Fault → Type 0
RefusedLevel n f = (e : Refusal) × Declined n e × (f ≡ fault.Level e)

abbrev pub LevelLine : List ℕ → ℕ → List ℕ → Type 0
LevelLine = Line (codes "level=") unreadable SaysLevel Bounded RefusedLevel

-- the line says a number, which need not be a level
abbrev pub LevelSaid : List ℕ → ℕ → List ℕ → Type 0
LevelSaid = Line (codes "level=") unreadable SaysLevel Bounded Never

abbrev pub LevelFault : List ℕ → Fault → Type 0
LevelFault = Fails (codes "level=") unreadable SaysLevel Bounded RefusedLevel

abbrev pub mirror_name : Bool → List ℕ
mirror_name true = codes "yes"
mirror_name false = codes "no"

abbrev pub SaysMirror : List ℕ → Bool → Type 0
SaysMirror body b = body ≡ mirror_name b

abbrev pub MirrorLine : List ℕ → Bool → List ℕ → Type 0
MirrorLine = Line (codes "mirror=") fault.Form SaysMirror Any Never

abbrev pub MirrorFault : List ℕ → Fault → Type 0
MirrorFault = Fails (codes "mirror=") fault.Form SaysMirror Any Never

-- a field that spells z, a comma, and then rest
pub record Entry (body : List ℕ) (z : ℤ) (rest : List ℕ) : Type 0 where
  pub field : List ℕ
  pub whole : body ≡ field ++ 44 ∷ rest
  pub spells : Spells field z

-- four numbers with commas between them
pub record SaysMatrix (body : List ℕ) (m : M2) : Type 0 where
  pub past_a : List ℕ
  pub past_b : List ℕ
  pub past_c : List ℕ
  pub a : Entry body m.a past_a
  pub b : Entry past_a m.b past_b
  pub c : Entry past_b m.c past_c
  pub d : Spells past_c m.d

-- an entry is at most a thousand million either side of 0
abbrev pub IsEntry : ℤ → Type 0
IsEntry z = unsigned_abs z ≤ 1000000000

-- fewer than a hundred matrix lines stand before, and each entry is in range
pub record IsMatrix (before : ℕ) (m : M2) : Type 0 where
  pub few : before < 100
  pub a : IsEntry m.a
  pub b : IsEntry m.b
  pub c : IsEntry m.c
  pub d : IsEntry m.d

-- the determinant is not 1
abbrev pub NotUnimodular : M2 → Fault → Type 0
NotUnimodular m f = (f ≡ fault.Matrix Determinant) × (det m ≢ pos 1)

abbrev pub MatrixLine : ℕ → List ℕ → M2 → List ℕ → Type 0
MatrixLine before = Line (codes "matrix=") unreadable SaysMatrix (IsMatrix before) NotUnimodular

abbrev pub MatrixFaulty : ℕ → List ℕ → Fault → Type 0
MatrixFaulty before = Fails (codes "matrix=") unreadable SaysMatrix (IsMatrix before) NotUnimodular
