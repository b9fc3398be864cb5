-- One line after the other.
use Rattle.std.proofs.Common.{◌≡◌, ℕ, suc, ◌+◌, ◌<◌, ◌≤◌, Bool, List, [], ◌∷◌, ◌++◌, map, length, vec_items, Ok, Err, MatchResult, codes, Result, Vec, sym, refl, ap, subst, inl, inr, arith, length-append}
use Rattle.std.specs.declared.alloc.Global.{Global}
use Rattle.modular.specs.Matrix.{M2, entries}
use Rattle.jobs.specs.Bytes.{Keyed}
use Rattle.jobs.specs.Format.{KindLine, MirrorLine, MatrixLine, LevelSaid, LevelFault, RefusedLevel}
use Rattle.jobs.specs.Jobs.{Named, NamedFault, Passed, Tail, TailFault, in_matrix, in_named, in_tail, mirror_on, Faulty, after_kind, on_line, made_on_line, Told, ReadsBy, ReadsMatrices}
use Rattle.jobs.specs.Line.{refused}
use Rattle.jobs.specs.declared.fault.Fault.{Fault}
use Rattle.jobs.specs.declared.fault.Refusal.{Refusal}
use Rattle.jobs.specs.declared.fault.Error.{Error}
use Rattle.jobs.specs.declared.fault.Error.TheVariants.{Refused, Memory}
use Rattle.jobs.specs.Objects.{Thing}
use Rattle.jobs.specs.declared.fault.LineError.{LineError}
use Rattle.jobs.specs.declared.fault.LineError.TheVariants as line_error
use Rattle.jobs.specs.declared.job.Job.{Job}
use Rattle.jobs.specs.declared.job.Subject.{Subject}
use Rattle.jobs.specs.declared.job.Subject.TheVariants.{Origami}
use Rattle.jobs.specs.Squares.{RightLine, ReadsRight, ReadsUp}
use Rattle.origami.specs.declared.origami.Origami as origami

-- what was read is not changed by the line's number
pub line_ok : {T : Type 0} (k : ℕ) (r : Result T Fault) (x : T) → on_line k r ≡ Ok x → r ≡ Ok x
line_ok k (Ok y) x e = let g : y ≡ x = cc in ap Ok g
line_ok k (Err f) x e = let z : ◌≡◌ {A = ℕ} 0 1 = cc in absurd (omega arith)

-- a fault is kept whole, and the line is added
pub line_err : {T : Type 0} (k : ℕ) (r : Result T Fault) (e : Refusal) → on_line k r ≡ Err e → (r ≡ Err e.fault) × (e.line ≡ k)
line_err k (Ok y) e h = let z : ◌≡◌ {A = ℕ} 0 1 = cc in absurd (omega arith)
line_err k (Err f) e h = let g : record { fault = f; line = k } ≡ e = cc in (ap (λ x. Err x.fault) g, sym (ap (λ x. x.line) g))

-- the same where memory may have run out
pub made_ok : {T : Type 0} (k : ℕ) (r : Result T LineError) (x : T) → made_on_line k r ≡ Ok x → r ≡ Ok x
made_ok k (Ok y) x e = let g : y ≡ x = cc in ap Ok g
made_ok k (Err (line_error.Faulty f)) x e = let z : ◌≡◌ {A = ℕ} 0 1 = cc in absurd (omega arith)
made_ok k (Err line_error.Memory) x e = let z : ◌≡◌ {A = ℕ} 0 1 = cc in absurd (omega arith)

pub made_err : {T : Type 0} (k : ℕ) (r : Result T LineError) (f : Refusal) → made_on_line k r ≡ Err (Refused f) → (r ≡ Err (line_error.Faulty f.fault)) × (f.line ≡ k)
made_err k (Ok y) f e = let z : ◌≡◌ {A = ℕ} 0 1 = cc in absurd (omega arith)
made_err k (Err (line_error.Faulty g)) f e =
    let h : record { fault = g; line = k } ≡ f = cc in
    (ap (λ x. Err (line_error.Faulty x.fault)) h, sym (ap (λ x. x.line) h))
made_err k (Err line_error.Memory) f e = let z : ◌≡◌ {A = ℕ} 0 1 = cc in absurd (omega arith)

-- a line takes some of the text
pub line_shortens : (key text body rest : List ℕ) → Keyed key text body rest → length rest < length text
line_shortens key text body rest k = omega (arith, simp length-append at (ap length k.whole))

-- one matrix line more
pub passed_more : (i : ℕ) (text : List ℕ) (ms : List M2) (r : List ℕ) (m : M2) (rest : List ℕ) → Passed i text ms r → MatrixLine (i + length ms) r m rest → Passed i text (ms ++ m ∷ []) rest
passed_more i text [] r m rest p l =
    let z : i + 0 ≡ i = omega arith in
    (rest, subst (λ t. MatrixLine i t m rest) (sym p) (subst (λ k. MatrixLine k r m rest) z l), refl)
passed_more i text (x ∷ xs) r m rest p l =
    let z : i + suc (length xs) ≡ suc i + length xs = omega arith in
    (p.0, p.1, passed_more (suc i) p.0 xs r m rest p.2 (subst (λ k. MatrixLine k r m rest) z l))

-- a text of no bytes
pub empty_text : (text : List ℕ) → length text ≡ 0 → text ≡ []
empty_text [] e = refl
empty_text (b ∷ text) e = absurd (omega arith)

-- a fault of the matrix lines is one of the tail
pub tail_matrices : (k : ℕ) (text : List ℕ) (b : Bool) (past : List ℕ) → MirrorLine text b past → (e : Error) → ReadsMatrices (k + 1) past (Err e) → Told (TailFault k text) e
tail_matrices k text b past l (Refused f) m =
    subst (λ line. TailFault k text f.fault line) (sym m.5) (in_matrix _ b past m.1 m.0 l m.2 m.3 m.4)
tail_matrices k text b past l Memory m = tt

-- below a first line that passes
module _ {S : Type 0} (subject : S → Subject) (text : List ℕ) (s : S) (past : List ℕ) (short : length text ≤ 4096) (l : KindLine subject text s past) where
  -- a fault of the lines that say what a job is about is one of the job
  pub named_fails : (e : Error) → Told (NamedFault (subject s) past) e → Told (Faulty subject text) e
  named_fails (Refused f) h = after_kind _ _ s past short l (in_named _ _ h)
  named_fails Memory h = tt

  -- and so is a fault of the tail; else the text spells the job
  pub reads_tail : {G : Type 0} (thing : G → Thing) (given : G) (rest : List ℕ) → Named (subject s) past (thing given) rest
      → (r : Result (Job G) Error)
      → MatchResult r (λ j. (j.given ≡ given) × Tail rest j.mirror (map entries (vec_items j.matrices))) (Told (TailFault (mirror_on (subject s)) rest))
      → ReadsBy subject thing text r
  reads_tail thing given rest n (Ok j) h =
      record { short = short; named = s; past = past; kind = l; rest = record { past = rest; named = subst (λ g. Named (subject s) past (thing g) rest) (sym h.0) n; tail = h.1 } }
  reads_tail thing given rest n (Err (Refused f)) h = after_kind _ _ s past short l (in_tail _ _ (thing given) rest n h)
  reads_tail thing given rest n (Err Memory) h = tt

-- a number that is said and is no level is the fault of its line
pub no_level : (text : List ℕ) (n : ℕ) (rest : List ℕ) (f : Fault) → LevelSaid text n rest → RefusedLevel n f → LevelFault text f
no_level text n rest f l r = refused l.body rest n f l.keyed l.says l.range r

-- a fault of the list of right or of up is one of the lines that say what a job is about
pub right_fails : (text body rest : List ℕ) (r : Result (Vec ℕ Global) LineError) → Keyed (codes "right=") text body rest → ReadsRight body r → (e : Error) → made_on_line 2 r ≡ Err e → Told (NamedFault Origami text) e
right_fails text body rest r k h (Refused f) e =
    let p = made_err 2 r f e in
    inl (subst (ReadsRight body) p.0 h text rest k, p.1)
right_fails text body rest r k h Memory e = tt

pub up_fails : (text xs past body rest : List ℕ) (r : Result origami.Origami LineError) → RightLine text xs past → Keyed (codes "up=") past body rest → ReadsUp xs body r → (e : Error) → made_on_line 3 r ≡ Err e → Told (NamedFault Origami text) e
up_fails text xs past body rest r l k h (Refused f) e =
    let p = made_err 3 r f e in
    inr (xs, past, l, subst (ReadsUp xs body) p.0 h past rest k, p.1)
up_fails text xs past body rest r l k h Memory e = tt
