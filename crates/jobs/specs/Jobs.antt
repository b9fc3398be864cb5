-- Which texts spell a job, and which line of any other text is the first that is faulty.
--     SpellsJob text j          the text spells the job j
--     FirstFault text f k       the first faulty line of the text is line k, and f is its fault
--     SpellsLevelJob text j, FirstLevelFault text f k      the same where the first line can name a kind of level action alone
-- A job is its line of kind, the lines that say what it is about (Named), and its tail: the line of mirror and the matrix lines.
use Rattle.std.specs.Prelude.{◌≡◌, ℕ, suc, ◌+◌, ◌<◌, ◌≤◌, Bool, ◌⊎◌, List, [], ◌∷◌, map, length, ℤ, Ok, Err, vec_items, Result, MatchResult, Vec, ◌≢◌}
use Rattle.std.specs.declared.alloc.Global.{Global}
use Rattle.modular.specs.Matrix.{M2, entries}
use Rattle.origami.specs.Listings.{listed}
use Rattle.jobs.specs.Format.{every, KindLine, KindFault, LevelLine, LevelFault, MirrorLine, MirrorFault, MatrixLine, MatrixFaulty}
use Rattle.jobs.specs.Objects.{Thing, level, squares, level_thing, thing_of}
use Rattle.jobs.specs.Squares.{RightLine, RightFault, UpLine, UpFault}
use Rattle.jobs.specs.declared.job.Given.{Given}
use Rattle.jobs.specs.declared.job.Job.{Job}
use Rattle.jobs.specs.declared.job.Object.{Object}
use Rattle.jobs.specs.declared.job.Subject.{Subject}
use Rattle.jobs.specs.declared.job.Subject.TheVariants.{Level, Origami}
use Rattle.jobs.specs.declared.fault.Fault.{Fault}
use Rattle.jobs.specs.declared.fault.Fault.TheVariants.{Range}
use Rattle.jobs.specs.declared.fault.Refusal.{Refusal}
use Rattle.jobs.specs.declared.fault.Error.{Error}
use Rattle.jobs.specs.declared.fault.Error.TheVariants.{Refused, Memory}
use Rattle.jobs.specs.declared.fault.LineError.{LineError}
use Rattle.jobs.specs.declared.fault.LineError.TheVariants as line_error

-- a job, with its matrices over the unbounded integers
pub record Task : Type 0 where
  pub thing : Thing
  pub mirror : Bool
  pub matrices : List M2

-- the job that a value holds, where `thing` says what a given action is
abbrev pub task_by : {G : Type 0} → (G → Thing) → Job G → Task
task_by thing j = record { thing = thing j.given; mirror = j.mirror; matrices = map entries (vec_items j.matrices) }

abbrev pub task : Job Given → Task
task = task_by thing_of

abbrev pub level_task : Job Object → Task
level_task = task_by level_thing

-- the lines that say what a job is about, below its first, and what comes after them
abbrev pub Named : Subject → List ℕ → Thing → List ℕ → Type 0
Named (Level k) text t rest = (l : ℕ) × LevelLine text l rest × (t ≡ level k l)
Named Origami text t rest =
    (xs : List ℕ) × (ys : List ℕ) × (past : List ℕ) × RightLine text xs past × UpLine xs past ys rest × (t ≡ squares (listed xs ys))

-- the first faulty one of them is line k of the job
abbrev pub NamedFault : Subject → List ℕ → Fault → ℕ → Type 0
NamedFault (Level l) text f k = LevelFault text f × (k ≡ 2)
NamedFault Origami text f k =
    (RightFault text f × (k ≡ 2)) ⊎ ((xs : List ℕ) × (past : List ℕ) × RightLine text xs past × UpFault xs past f × (k ≡ 3))

-- the line of mirror comes after them
abbrev pub mirror_on : Subject → ℕ
mirror_on (Level k) = 3
mirror_on Origami = 4

-- matrix lines that say ms, the first of them with `before` others before it, and what comes after them
abbrev pub Passed : ℕ → List ℕ → List M2 → List ℕ → Type 0
Passed before text [] rest = text ≡ rest
Passed before text (m ∷ ms) rest = (past : List ℕ) × MatrixLine before text m past × Passed (suc before) past ms rest

-- the line of mirror, and matrix lines up to the end of the text
pub record Tail (text : List ℕ) (b : Bool) (ms : List M2) : Type 0 where
  pub past : List ℕ
  pub mirror : MirrorLine text b past
  pub matrices : Passed 0 past ms []

-- the first faulty one of them, where the line of mirror is line k
pub data TailFault (k : ℕ) (text : List ℕ) : Fault → ℕ → Type 0 where
  in_mirror : (f : Fault) → MirrorFault text f → TailFault k text f k
  in_matrix : (f : Fault) (b : Bool) (past rest : List ℕ) (ms : List M2) → MirrorLine text b past → Passed 0 past ms rest → (rest ≢ []) → MatrixFaulty (length ms) rest f → TailFault k text f (k + 1 + length ms)

-- all lines of a job below the first, which says s
pub record Rest (s : Subject) (text : List ℕ) (j : Task) : Type 0 where
  pub past : List ℕ
  pub named : Named s text j.thing past
  pub tail : Tail past j.mirror j.matrices

pub data RestFault (s : Subject) (text : List ℕ) : Fault → ℕ → Type 0 where
  in_named : (f : Fault) (k : ℕ) → NamedFault s text f k → RestFault s text f k
  in_tail : (f : Fault) (k : ℕ) (t : Thing) (past : List ℕ) → Named s text t past → TailFault (mirror_on s) past f k → RestFault s text f k

-- of texts whose first line can name what `subject` says
module _ {S : Type 0} (subject : S → Subject) where
  pub record Spells (text : List ℕ) (j : Task) : Type 0 where
    pub short : length text ≤ 4096
    pub named : S
    pub past : List ℕ
    pub kind : KindLine subject text named past
    pub rest : Rest (subject named) past j

  pub data Faulty (text : List ℕ) : Fault → ℕ → Type 0 where
    too_long : 4096 < length text → Faulty text Range 0
    in_kind : (f : Fault) → length text ≤ 4096 → KindFault subject text f → Faulty text f 1
    after_kind : (f : Fault) (k : ℕ) (s : S) (past : List ℕ) → length text ≤ 4096 → KindLine subject text s past → RestFault (subject s) past f k → Faulty text f k

abbrev pub SpellsJob : List ℕ → Task → Type 0
SpellsJob = Spells every

abbrev pub FirstFault : List ℕ → Fault → ℕ → Type 0
FirstFault = Faulty every

abbrev pub SpellsLevelJob : List ℕ → Task → Type 0
SpellsLevelJob = Spells Level

abbrev pub FirstLevelFault : List ℕ → Fault → ℕ → Type 0
FirstLevelFault = Faulty Level

-- an error is a fault of which F holds, with its line; or want of memory, which says nothing
abbrev pub Told : (Fault → ℕ → Type 0) → Error → Type 0
Told F (Refused r) = F r.fault r.line
Told F Memory = Unit {0}

-- what reading a text gives: the job that it spells, or its first fault; or nothing, for want of memory
abbrev pub ReadsBy : {S G : Type 0} → (S → Subject) → (G → Thing) → List ℕ → Result (Job G) Error → Type 0
ReadsBy subject thing text r = MatchResult r (λ j. Spells subject text (task_by thing j)) (Told (Faulty subject text))

abbrev pub Reads : List ℕ → Result (Job Given) Error → Type 0
Reads = ReadsBy every thing_of

abbrev pub ReadsLevel : List ℕ → Result (Job Object) Error → Type 0
ReadsLevel = ReadsBy Level level_thing

-- the job j was given
abbrev pub Gives : {G : Type 0} → (G → Thing) → Result (Job G) Error → Task → Type 0
Gives thing r j = MatchResult r (λ v. task_by thing v ≡ j) (Told (λ f k. ⊥))

-- the fault f on line k was given
abbrev pub Declines : {G : Type 0} → Result (Job G) Error → Fault → ℕ → Type 0
Declines r f k = MatchResult r (λ v. ⊥) (Told (λ g l. (g ≡ f) × (l ≡ k)))

-- what reading gives of the matrix lines, from line k on
abbrev pub ReadsMatrices : ℕ → List ℕ → Result (Vec (List (List ℤ)) Global) Error → Type 0
ReadsMatrices k text r = MatchResult r
    (λ v. Passed 0 text (map entries (vec_items v)) [])
    (Told (λ f l. (ms : List M2) × (rest : List ℕ) × Passed 0 text ms rest × (rest ≢ []) × MatrixFaulty (length ms) rest f × (l ≡ k + length ms)))

-- a fault with its line, and the same where memory may have run out
abbrev pub on_line : {T : Type 0} → ℕ → Result T Fault → Result T Refusal
on_line line (Ok x) = Ok x
on_line line (Err f) = Err (record { fault = f; line = line })

abbrev pub made_on_line : {T : Type 0} → ℕ → Result T LineError → Result T Error
made_on_line line (Ok x) = Ok x
made_on_line line (Err (line_error.Faulty f)) = Err (Refused (record { fault = f; line = line }))
made_on_line line (Err line_error.Memory) = Err Memory
