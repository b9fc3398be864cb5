-- What each kind of line says, it says alone.
use Rattle.std.proofs.Common.{◌≡◌, ℕ, Bool, true, false, List, codes, sym, refl, ap, ◌∙◌, arith}
use Rattle.modular.specs.Matrix.{M2}
use Rattle.jobs.specs.Format.{every, SaysKind, kind_name, subject_name, KindLine, KindFault, SaysLevel, Bounded, RefusedLevel, unreadable, LevelLine, LevelFault, SaysMirror, mirror_name, MirrorLine, MirrorFault, SaysMatrix, IsMatrix, NotUnimodular, MatrixLine, MatrixFaulty, Any, Never}
use Rattle.jobs.specs.declared.fault.Fault.{Fault}
use Rattle.jobs.specs.declared.fault.Fault.TheVariants as fault
use Rattle.jobs.specs.declared.job.Kind.{Kind}
use Rattle.jobs.specs.declared.job.Kind.TheVariants.{Lines, Vectors, Matrices}
use Rattle.jobs.specs.declared.job.Subject.{Subject}
use Rattle.jobs.specs.declared.job.Subject.TheVariants.{Level, Origami}
use Rattle.jobs.specs.Line.{form, unread, range, refused}
use Rattle.jobs.proofs.Exactly.{line_same, line_sound, fault_same}
use Rattle.jobs.proofs.Fields.{one_value, one_entry, second_entry, third_entry, last_entry}

-- two kinds have two names
one_name : (j k : Kind) → kind_name j ≡ kind_name k → j ≡ k
one_name Lines Lines e = refl
one_name Lines Vectors e = let z : ◌≡◌ {A = ℕ} 108 118 = cc in absurd (omega arith)
one_name Lines Matrices e = let z : ◌≡◌ {A = ℕ} 108 109 = cc in absurd (omega arith)
one_name Vectors Lines e = let z : ◌≡◌ {A = ℕ} 118 108 = cc in absurd (omega arith)
one_name Vectors Vectors e = refl
one_name Vectors Matrices e = let z : ◌≡◌ {A = ℕ} 118 109 = cc in absurd (omega arith)
one_name Matrices Lines e = let z : ◌≡◌ {A = ℕ} 109 108 = cc in absurd (omega arith)
one_name Matrices Vectors e = let z : ◌≡◌ {A = ℕ} 109 118 = cc in absurd (omega arith)
one_name Matrices Matrices e = refl

no_origami : (k : Kind) → kind_name k ≡ codes "origami" → ⊥
no_origami Lines e = let z : ◌≡◌ {A = ℕ} 108 111 = cc in omega arith
no_origami Vectors e = let z : ◌≡◌ {A = ℕ} 118 111 = cc in omega arith
no_origami Matrices e = let z : ◌≡◌ {A = ℕ} 109 111 = cc in omega arith

one_subject : (r s : Subject) → subject_name r ≡ subject_name s → r ≡ s
one_subject (Level j) (Level k) e = ap Level (one_name j k e)
one_subject (Level j) Origami e = absurd (no_origami j e)
one_subject Origami (Level k) e = absurd (no_origami k (sym e))
one_subject Origami Origami e = refl

one_level : (body : List ℕ) (l n : ℕ) → SaysLevel body l → SaysLevel body n → l ≡ n
one_level body l n p q = p.1 ∙ sym q.1

-- yes is not no
one_word : (a b : Bool) → mirror_name a ≡ mirror_name b → a ≡ b
one_word true true e = refl
one_word true false e = let z : ◌≡◌ {A = ℕ} 121 110 = cc in absurd (omega arith)
one_word false true e = let z : ◌≡◌ {A = ℕ} 110 121 = cc in absurd (omega arith)
one_word false false e = refl

one_mirror : (body : List ℕ) (a b : Bool) → SaysMirror body a → SaysMirror body b → a ≡ b
one_mirror body a b p q = one_word a b (sym p ∙ q)

one_matrix : (body : List ℕ) (x y : M2) → SaysMatrix body x → SaysMatrix body y → x ≡ y
one_matrix body x y s t =
    let a = (one_entry body x.a y.a s.past_a t.past_a s.a t.a).0 in
    let b = (one_entry s.past_a x.b y.b s.past_b t.past_b s.b (second_entry s.a t)).0 in
    let c = (one_entry s.past_b x.c y.c s.past_c t.past_c s.c (third_entry s.a t s.b)).0 in
    let d = one_value s.past_c x.d y.d s.d (last_entry s.a t s.b s.c) in
    λ i. record { a = a i; b = b i; c = c i; d = d i }

no_refusal : {X : Type 0} (x : X) (n m : Fault) → Never x n → Never x m → n ≡ m
no_refusal x n m p q = absurd p

one_refusal : (x : M2) (n m : Fault) → NotUnimodular x n → NotUnimodular x m → n ≡ m
one_refusal x n m p q = p.0 ∙ sym q.0

one_range : (l : ℕ) (n m : Fault) → RefusedLevel l n → RefusedLevel l m → n ≡ m
one_range l n m p q = p.2 ∙ ap fault.Level (p.1.0 ∙ sym q.1.0) ∙ sym q.2

-- where subjects are told apart, so is what a first line names
module _ {S : Type 0} (subject : S → Subject) (one : (r s : S) → subject r ≡ subject s → r ≡ s) where
  one_kind : (body : List ℕ) (r s : S) → SaysKind subject body r → SaysKind subject body s → r ≡ s
  one_kind body r s p q = one r s (one_subject (subject r) (subject s) (sym p ∙ q))

  pub kind_same : (text : List ℕ) (j k : S) (r q : List ℕ) → KindLine subject text j r → KindLine subject text k q → (j ≡ k) × (r ≡ q)
  kind_same = line_same (codes "kind=") fault.Form (SaysKind subject) Any Never one_kind no_refusal

  pub kind_sound : (text : List ℕ) (k : S) (r : List ℕ) (n : Fault) → KindLine subject text k r → KindFault subject text n → ⊥
  kind_sound = line_sound (codes "kind=") fault.Form (SaysKind subject) Any Never one_kind no_refusal

  pub kind_fault : (text : List ℕ) (n m : Fault) → KindFault subject text n → KindFault subject text m → n ≡ m
  kind_fault = fault_same (codes "kind=") fault.Form (SaysKind subject) Any Never one_kind no_refusal

-- a first line that names no subject names no kind of level action
pub level_kind_fault : (text : List ℕ) (f : Fault) → KindFault every text f → KindFault Level text f
level_kind_fault text f (form h) = form h
level_kind_fault text f (unread body rest k h) = unread body rest k (λ j s. h (Level j) s)
level_kind_fault text f (range body rest s k h n) = absurd (n tt)
level_kind_fault text f (refused body rest s g k h i n) = absurd n

-- one that names a kind names it whatever else it can name
pub level_kind : (text : List ℕ) (k : Kind) (r : List ℕ) → KindLine every text (Level k) r → KindLine Level text k r
level_kind text k r l = record { body = l.body; keyed = l.keyed; says = l.says; range = tt; made = λ f h. h }

-- and one that names origamis names none
pub origami_no_kind : (text : List ℕ) (r : List ℕ) → KindLine every text Origami r → KindFault Level text fault.Form
origami_no_kind text r l = unread l.body r l.keyed (λ j s. no_origami j (sym s ∙ l.says))

pub level_same : (text : List ℕ) (l n : ℕ) (r q : List ℕ) → LevelLine text l r → LevelLine text n q → (l ≡ n) × (r ≡ q)
level_same = line_same (codes "level=") unreadable SaysLevel Bounded RefusedLevel one_level one_range

pub level_sound : (text : List ℕ) (l : ℕ) (r : List ℕ) (n : Fault) → LevelLine text l r → LevelFault text n → ⊥
level_sound = line_sound (codes "level=") unreadable SaysLevel Bounded RefusedLevel one_level one_range

pub level_fault : (text : List ℕ) (n m : Fault) → LevelFault text n → LevelFault text m → n ≡ m
level_fault = fault_same (codes "level=") unreadable SaysLevel Bounded RefusedLevel one_level one_range

pub mirror_same : (text : List ℕ) (a b : Bool) (r q : List ℕ) → MirrorLine text a r → MirrorLine text b q → (a ≡ b) × (r ≡ q)
mirror_same = line_same (codes "mirror=") fault.Form SaysMirror Any Never one_mirror no_refusal

pub mirror_sound : (text : List ℕ) (b : Bool) (r : List ℕ) (n : Fault) → MirrorLine text b r → MirrorFault text n → ⊥
mirror_sound = line_sound (codes "mirror=") fault.Form SaysMirror Any Never one_mirror no_refusal

pub mirror_fault : (text : List ℕ) (n m : Fault) → MirrorFault text n → MirrorFault text m → n ≡ m
mirror_fault = fault_same (codes "mirror=") fault.Form SaysMirror Any Never one_mirror no_refusal

pub matrix_same : (i : ℕ) (text : List ℕ) (x y : M2) (r q : List ℕ) → MatrixLine i text x r → MatrixLine i text y q → (x ≡ y) × (r ≡ q)
matrix_same i = line_same (codes "matrix=") unreadable SaysMatrix (IsMatrix i) NotUnimodular one_matrix one_refusal

pub matrix_sound : (i : ℕ) (text : List ℕ) (x : M2) (r : List ℕ) (n : Fault) → MatrixLine i text x r → MatrixFaulty i text n → ⊥
matrix_sound i = line_sound (codes "matrix=") unreadable SaysMatrix (IsMatrix i) NotUnimodular one_matrix one_refusal

pub matrix_fault : (i : ℕ) (text : List ℕ) (n m : Fault) → MatrixFaulty i text n → MatrixFaulty i text m → n ≡ m
matrix_fault i = fault_same (codes "matrix=") unreadable SaysMatrix (IsMatrix i) NotUnimodular one_matrix one_refusal
