-- What a listing, or its refusal, tells of a job.
use Rattle.std.proofs.Common.{◌≡◌, ℕ, suc, Bool, true, false, List, [], ◌∷◌, ℤ, pos, Ok, Err, string_bytes, Result, String, sym, refl, ap, ◌∙◌, inl, inr, arith}
use Rattle.std.specs.declared.alloc.Global.{Global}
use Rattle.std.proofs.lemmas.Bool.{and_from, le-leb}
use Rattle.modular.specs.Matrix.{M2, det}
use Rattle.table.specs.declared.refusal.Refusal.{Refusal}
use Rattle.table.specs.declared.refusal.Refusal.TheVariants.{NoFreeRow}
use Rattle.table.specs.Questions.{is_one, place_by, within}
use Rattle.listing.specs.declared.error.Error.TheVariants.{Declined}
use Rattle.listing.specs.Grown.{Tabulated, Crowded, FirstUnplaced, GrownOr}
use Rattle.jobs.specs.declared.fault.Fault.TheVariants as fault
use Rattle.jobs.specs.declared.fault.MatrixFault.TheVariants.{Determinant}
use Rattle.jobs.specs.Format.{IsMatrix, MatrixLine}
use Rattle.jobs.specs.Jobs.{Passed, SpellsJob, Task}
use Rattle.jobs.specs.Objects.{Thing, level, squares}
use Rattle.jobs.specs.declared.job.Kind.TheVariants.{Lines, Vectors, Matrices}
use Rattle.answers.specs.Answers.{TabulatedFor, CrowdedFor, GrownFor}

-- a result is not two
apart : {A E X : Type 0} {a : A} {e : E} → ◌≡◌ {A = Result A E} (Ok a) (Err e) → X
apart p = let z : ◌≡◌ {A = ℕ} 0 1 = cc in absurd (omega arith)

-- a test does not come out both ways
both : {X : Type 0} → ◌≡◌ {A = Bool} true false → X
both p = let z : ◌≡◌ {A = ℕ} 0 1 = cc in absurd (omega arith)

module _ {R : Type 0} (start : R) (t s : R → R) (xs : List M2) where
  or_lists : (text : String Global) → GrownOr start t s 1200 xs (Ok text) → Tabulated start t s xs (string_bytes text)
  or_lists text (inl (inl p)) = apart p.1
  or_lists text (inl (inr p)) = p.1
  or_lists text (inr p) = apart p

  or_crowds : (e : Refusal) → GrownOr start t s 1200 xs (Err (Declined e)) → (FirstUnplaced xs e → ⊥) → (e ≡ NoFreeRow) × Crowded start t s 1200
  or_crowds e (inl (inl p)) n = both p.0
  or_crowds e (inl (inr (l, inl p))) n = p
  or_crowds e (inl (inr (l, inr p))) n = absurd (n p)
  or_crowds e (inr p) n = let z : ◌≡◌ {A = ℕ} 0 1 = cc in absurd (omega arith)

-- a listing that is given is that of the job's table
pub grown_lists : (x : Thing) (b : Bool) (xs : List M2) (text : String Global) → GrownFor x b xs (Ok text) → TabulatedFor x b xs (string_bytes text)
grown_lists (level Lines n) b xs text h = or_lists _ _ _ xs text h
grown_lists (level Vectors n) b xs text h = or_lists _ _ _ xs text h
grown_lists (level Matrices n) b xs text h = or_lists _ _ _ xs text h
grown_lists (squares g) b xs text h = or_lists _ _ _ xs text h

-- and a refusal says that it has too many rows, where no matrix is declined
pub grown_crowds : (x : Thing) (b : Bool) (xs : List M2) (e : Refusal) → GrownFor x b xs (Err (Declined e)) → (FirstUnplaced xs e → ⊥) → (e ≡ NoFreeRow) × CrowdedFor x b
grown_crowds (level Lines n) b xs e h u = or_crowds _ _ _ xs e h u
grown_crowds (level Vectors n) b xs e h u = or_crowds _ _ _ xs e h u
grown_crowds (level Matrices n) b xs e h u = or_crowds _ _ _ xs e h u
grown_crowds (squares g) b xs e h u = or_crowds _ _ _ xs e h u

-- a determinant that is not told to be 1 is not 1
not_one : (z : ℤ) → is_one z ≡ false → z ≡ pos 1 → ⊥
not_one z e f = both (sym (ap is_one f) ∙ e)

-- a matrix of a job's line is in range and has determinant 1
in_range : (k : ℕ) (m : M2) → IsMatrix k m → within 1000000000 m ≡ true
in_range k m h = and_from _ _ (and_from _ _ (le-leb _ 1000000000 h.a) (le-leb _ 1000000000 h.b)) (and_from _ _ (le-leb _ 1000000000 h.c) (le-leb _ 1000000000 h.d))

placed : (k : ℕ) (text : List ℕ) (m : M2) (rest : List ℕ) (e : Refusal) → MatrixLine k text m rest → place_by (within 1000000000 m) (is_one (det m)) 0 ≡ Err e → ⊥
placed k text m rest e l h = by (within 1000000000 m) (is_one (det m)) (in_range k m l.range) refl h
  where
    by : (a b : Bool) → a ≡ true → is_one (det m) ≡ b → place_by a b 0 ≡ Err e → ⊥
    by false b p q h = both (sym p)
    by true false p q h = l.made (fault.Matrix Determinant) (refl, not_one (det m) q)
    by true true p q h = apart h

all_placed : (k : ℕ) (text : List ℕ) (ms : List M2) (rest : List ℕ) (e : Refusal) → Passed k text ms rest → FirstUnplaced ms e → ⊥
all_placed k text [] rest e p u = u
all_placed k text (m ∷ ms) rest e p (inl u) = placed k text m p.0 e p.1 u
all_placed k text (m ∷ ms) rest e p (inr u) = all_placed (suc k) p.0 ms rest e p.2 u.1

-- no matrix of a job is declined
pub job_placed : (text : List ℕ) (j : Task) (e : Refusal) → SpellsJob text j → FirstUnplaced j.matrices e → ⊥
job_placed text j e h = all_placed 0 h.rest.tail.past j.matrices [] e h.rest.tail.matrices
