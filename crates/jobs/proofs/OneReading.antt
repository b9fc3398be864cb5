-- A text spells one job or has one first fault, and never both.
use Rattle.std.proofs.Common.{◌≡◌, ℕ, suc, ◌+◌, Bool, List, [], ◌∷◌, length, Ok, Err, Result, sym, refl, ap, ◌∙◌, subst, inl, inr, arith}
use Rattle.modular.specs.Matrix.{M2}
use Rattle.origami.specs.Listings.{listed}
use Rattle.jobs.specs.Format.{MatrixLine, MatrixFaulty}
use Rattle.jobs.specs.Jobs.{Task, Named, NamedFault, Passed, Tail, TailFault, in_mirror, in_matrix, mirror_on, Rest, RestFault, in_named, in_tail, Spells, Faulty, too_long, in_kind, after_kind, ReadsBy, Gives, Declines, task_by}
use Rattle.jobs.specs.Objects.{Thing, level, squares}
use Rattle.jobs.specs.Squares.{UpLine, UpFault}
use Rattle.jobs.specs.declared.job.Subject.{Subject}
use Rattle.jobs.specs.declared.job.Subject.TheVariants.{Level, Origami}
use Rattle.jobs.specs.declared.job.Job.{Job}
use Rattle.jobs.specs.declared.fault.Error.{Error}
use Rattle.jobs.specs.declared.fault.Fault.{Fault}
use Rattle.jobs.specs.declared.fault.Error.TheVariants.{Refused, Memory}
use Rattle.jobs.proofs.Alone.{kind_same, kind_sound, kind_fault, level_same, level_sound, level_fault, mirror_same, mirror_sound, mirror_fault, matrix_same, matrix_sound, matrix_fault}
use Rattle.jobs.proofs.Glued.{right_same, right_sound, right_fault, up_same, up_sound, up_fault}
use Rattle.jobs.proofs.Passing.{line_shortens}

-- an empty text has no line
no_line : (i : ℕ) (text : List ℕ) (m : M2) (past : List ℕ) → text ≡ [] → MatrixLine i text m past → ⊥
no_line i text m past e l = let s = line_shortens _ text l.body past l.keyed in let z = ap length e in omega (arith, s, z)

-- the matrices that a whole text says
passed_same : (i : ℕ) (text : List ℕ) (ms ns : List M2) → Passed i text ms [] → Passed i text ns [] → ms ≡ ns
passed_same i text [] [] p q = refl
passed_same i text [] (n ∷ ns) p q = absurd (no_line i text n q.0 p q.1)
passed_same i text (m ∷ ms) [] p q = absurd (no_line i text m p.0 q p.1)
passed_same i text (m ∷ ms) (n ∷ ns) p q =
    let s = matrix_same i text m n p.0 q.0 p.1 q.1 in
    let t = passed_same (suc i) q.0 ms ns (subst (λ l. Passed (suc i) l ms []) s.1 p.2) q.2 in
    λ k. s.0 k ∷ t k

-- the first faulty matrix line of a text: the lines before it pass, and it is there
pub record Stuck (i : ℕ) (text : List ℕ) (ms : List M2) (n : Fault) : Type 0 where
  pub rest : List ℕ
  pub passed : Passed i text ms rest
  pub there : rest ≡ [] → ⊥
  pub faulty : MatrixFaulty (i + length ms) rest n

-- after one line that passes
onward : (i : ℕ) (text : List ℕ) (m : M2) (ms : List M2) (n : Fault) (s : Stuck i text (m ∷ ms) n) → Stuck (suc i) s.passed.0 ms n
onward i text m ms n s =
    let e : i + suc (length ms) ≡ suc i + length ms = omega arith in
    record { rest = s.rest; passed = s.passed.2; there = s.there; faulty = subst (λ k. MatrixFaulty k s.rest n) e s.faulty }

-- where no line passes, the first is faulty
stuck_first : (i : ℕ) (text : List ℕ) (n : Fault) → Stuck i text [] n → MatrixFaulty i text n
stuck_first i text n s =
    let e : i + 0 ≡ i = omega arith in
    subst (λ t. MatrixFaulty i t n) (sym s.passed) (subst (λ k. MatrixFaulty k s.rest n) e s.faulty)

passed_sound : (i : ℕ) (text : List ℕ) (ms ns : List M2) (n : Fault) → Passed i text ms [] → Stuck i text ns n → ⊥
passed_sound i text [] [] n p s = s.there (sym s.passed ∙ p)
passed_sound i text [] (y ∷ ns) n p s = no_line i text y s.passed.0 p s.passed.1
passed_sound i text (x ∷ ms) [] n p s = matrix_sound i text x p.0 n p.1 (stuck_first i text n s)
passed_sound i text (x ∷ ms) (y ∷ ns) n p s =
    let e = (matrix_same i text x y p.0 s.passed.0 p.1 s.passed.1).1 in
    passed_sound (suc i) s.passed.0 ms ns n (subst (λ l. Passed (suc i) l ms []) e p.2) (onward i text y ns n s)

stuck_same : (i : ℕ) (text : List ℕ) (ms ns : List M2) (n m : Fault) → Stuck i text ms n → Stuck i text ns m → (n ≡ m) × (length ms ≡ length ns)
stuck_same i text [] [] n m s t = (matrix_fault i text n m (stuck_first i text n s) (stuck_first i text m t), refl)
stuck_same i text [] (y ∷ ns) n m s t = absurd (matrix_sound i text y t.passed.0 n t.passed.1 (stuck_first i text n s))
stuck_same i text (x ∷ ms) [] n m s t = absurd (matrix_sound i text x s.passed.0 m s.passed.1 (stuck_first i text m t))
stuck_same i text (x ∷ ms) (y ∷ ns) n m s t =
    let e = (matrix_same i text x y s.passed.0 t.passed.0 s.passed.1 t.passed.1).1 in
    let p = stuck_same (suc i) t.passed.0 ms ns n m (subst (λ l. Stuck (suc i) l ms n) e (onward i text x ms n s)) (onward i text y ns m t) in
    (p.0, ap suc p.1)

-- what a job is about is said once
up_moved : (xs zs text past ys r : List ℕ) → xs ≡ zs → text ≡ past → UpLine xs text ys r → UpLine zs past ys r
up_moved xs zs text past ys r e f l = subst (λ v. UpLine v past ys r) e (subst (λ t. UpLine xs t ys r) f l)

named_same : (s : Subject) (text : List ℕ) (t u : Thing) (r q : List ℕ) → Named s text t r → Named s text u q → (t ≡ u) × (r ≡ q)
named_same (Level k) text t u r q g h =
    let e = level_same text g.0 h.0 r q g.1 h.1 in
    (g.2 ∙ ap (level k) e.0 ∙ sym h.2, e.1)
named_same Origami text t u r q g h =
    let e = right_same text g.0 h.0 g.2 h.2 g.3 h.3 in
    let f = up_same h.0 h.2 g.1 h.1 r q (up_moved g.0 h.0 g.2 h.2 g.1 r e.0 e.1 g.4) h.4 in
    (g.5 ∙ (λ i. squares (listed (e.0 i) (f.0 i))) ∙ sym h.5, f.1)

named_sound : (s : Subject) (text : List ℕ) (t : Thing) (r : List ℕ) (n : Fault) (k : ℕ) → Named s text t r → NamedFault s text n k → ⊥
named_sound (Level j) text t r n k g f = level_sound text g.0 r n g.1 f.0
named_sound Origami text t r n k g (inl f) = right_sound text g.0 g.2 n g.3 f.0
named_sound Origami text t r n k g (inr f) =
    let e = right_same text g.0 f.0 g.2 f.1 g.3 f.2 in
    up_sound f.0 f.1 g.1 r n (up_moved g.0 f.0 g.2 f.1 g.1 r e.0 e.1 g.4) f.3

named_fault : (s : Subject) (text : List ℕ) (n m : Fault) (k o : ℕ) → NamedFault s text n k → NamedFault s text m o → (n ≡ m) × (k ≡ o)
named_fault (Level j) text n m k o f g = (level_fault text n m f.0 g.0, f.1 ∙ sym g.1)
named_fault Origami text n m k o (inl f) (inl g) = (right_fault text n m f.0 g.0, f.1 ∙ sym g.1)
named_fault Origami text n m k o (inl f) (inr g) = absurd (right_sound text g.0 g.1 n g.2 f.0)
named_fault Origami text n m k o (inr f) (inl g) = absurd (right_sound text f.0 f.1 m f.2 g.0)
named_fault Origami text n m k o (inr f) (inr g) =
    let e = right_same text f.0 g.0 f.1 g.1 f.2 g.2 in
    let h = subst (λ v. UpFault v g.1 n) e.0 (subst (λ t. UpFault f.0 t n) e.1 f.3) in
    (up_fault g.0 g.1 n m h g.3, f.4 ∙ sym g.4)

stuck : (n : Fault) (past rest : List ℕ) (ms : List M2) → Passed 0 past ms rest → (rest ≡ [] → ⊥) → MatrixFaulty (length ms) rest n → Stuck 0 past ms n
stuck n past rest ms p t f =
    let e : length ms ≡ 0 + length ms = omega arith in
    record { rest = rest; passed = p; there = t; faulty = subst (λ k. MatrixFaulty k rest n) e f }

-- a tail is read once
tail_same : (text : List ℕ) (a b : Bool) (ms ns : List M2) → Tail text a ms → Tail text b ns → (a ≡ b) × (ms ≡ ns)
tail_same text a b ms ns g h =
    let e = mirror_same text a b g.past h.past g.mirror h.mirror in
    (e.0, passed_same 0 h.past ms ns (subst (λ r. Passed 0 r ms []) e.1 g.matrices) h.matrices)

tail_sound : (i : ℕ) (text : List ℕ) (b : Bool) (ms : List M2) (n : Fault) (k : ℕ) → Tail text b ms → TailFault i text n k → ⊥
tail_sound i text b ms n k g (in_mirror m f) = mirror_sound text b g.past m g.mirror f
tail_sound i text b ms n k g (in_matrix m a past rest ns l p t f) =
    let e = (mirror_same text b a g.past past g.mirror l).1 in
    passed_sound 0 past ms ns m (subst (λ r. Passed 0 r ms []) e g.matrices) (stuck m past rest ns p t f)

tail_fault : (i : ℕ) (text : List ℕ) (n m : Fault) (k o : ℕ) → TailFault i text n k → TailFault i text m o → (n ≡ m) × (k ≡ o)
tail_fault i text n m k o (in_mirror a f) (in_mirror d g) = (mirror_fault text a d f g, refl)
tail_fault i text n m k o (in_mirror a f) (in_matrix d b past rest ns l p t g) = absurd (mirror_sound text b past a l f)
tail_fault i text n m k o (in_matrix a b past rest ms l p t f) (in_mirror d g) = absurd (mirror_sound text b past d l g)
tail_fault i text n m k o (in_matrix a b past rest ms l p t f) (in_matrix d c q more ns h w u g) =
    let e = (mirror_same text b c past q l h).1 in
    let s = stuck_same 0 q ms ns a d (subst (λ r. Stuck 0 r ms a) e (stuck a past rest ms p t f)) (stuck d q more ns w u g) in
    (s.0, ap (λ x. i + 1 + x) s.1)

-- and so are all lines below the first
rest_same : (s : Subject) (text : List ℕ) (i j : Task) → Rest s text i → Rest s text j → i ≡ j
rest_same s text i j g h =
    let e = named_same s text i.thing j.thing g.past h.past g.named h.named in
    let f = tail_same h.past i.mirror j.mirror i.matrices j.matrices (subst (λ r. Tail r i.mirror i.matrices) e.1 g.tail) h.tail in
    λ k. record { thing = e.0 k; mirror = f.0 k; matrices = f.1 k }

rest_sound : (s : Subject) (text : List ℕ) (j : Task) (n : Fault) (k : ℕ) → Rest s text j → RestFault s text n k → ⊥
rest_sound s text j n k g (in_named m l f) = named_sound s text j.thing g.past m l g.named f
rest_sound s text j n k g (in_tail m l t past h f) =
    let e = (named_same s text j.thing t g.past past g.named h).1 in
    tail_sound (mirror_on s) past j.mirror j.matrices m l (subst (λ r. Tail r j.mirror j.matrices) e g.tail) f

rest_fault : (s : Subject) (text : List ℕ) (n m : Fault) (k o : ℕ) → RestFault s text n k → RestFault s text m o → (n ≡ m) × (k ≡ o)
rest_fault s text n m k o (in_named a i f) (in_named d j g) = named_fault s text a d i j f g
rest_fault s text n m k o (in_named a i f) (in_tail d j t past h g) = absurd (named_sound s text t past a i h f)
rest_fault s text n m k o (in_tail a i t past h f) (in_named d j g) = absurd (named_sound s text t past d j h g)
rest_fault s text n m k o (in_tail a i t past h f) (in_tail d j u more l g) =
    let e = (named_same s text t u past more h l).1 in
    tail_fault (mirror_on s) more a d i j (subst (λ r. TailFault (mirror_on s) r a i) e f) g

-- a text that spells a job has no fault, where what the first line can name is told apart
module _ {S : Type 0} (subject : S → Subject) (one : (r s : S) → subject r ≡ subject s → r ≡ s) where
  job_sound : (text : List ℕ) (j : Task) (n : Fault) (k : ℕ) → Spells subject text j → Faulty subject text n k → ⊥
  job_sound text j n k s (too_long l) = omega (arith, s.short)
  job_sound text j n k s (in_kind m c f) = kind_sound subject one text s.named s.past m s.kind f
  job_sound text j n k s (after_kind m i v past c g f) =
      let e = kind_same subject one text s.named v s.past past s.kind g in
      rest_sound (subject v) past j m i (subst (λ u. Rest (subject u) past j) e.0 (subst (λ r. Rest (subject s.named) r j) e.1 s.rest)) f

  job_same : (text : List ℕ) (i j : Task) → Spells subject text i → Spells subject text j → i ≡ j
  job_same text i j s t =
      let e = kind_same subject one text s.named t.named s.past t.past s.kind t.kind in
      rest_same (subject t.named) t.past i j (subst (λ u. Rest (subject u) t.past i) e.0 (subst (λ r. Rest (subject s.named) r i) e.1 s.rest)) t.rest

  -- a text has one first fault
  fault_same : (text : List ℕ) (n m : Fault) (k o : ℕ) → Faulty subject text n k → Faulty subject text m o → (n ≡ m) × (k ≡ o)
  fault_same text n m k o (too_long l) (too_long h) = (refl, refl)
  fault_same text n m k o (too_long l) (in_kind a c f) = absurd (omega arith)
  fault_same text n m k o (too_long l) (after_kind a i s p c g f) = absurd (omega arith)
  fault_same text n m k o (in_kind a c f) (too_long l) = absurd (omega arith)
  fault_same text n m k o (in_kind a c f) (in_kind d e g) = (kind_fault subject one text a d f g, refl)
  fault_same text n m k o (in_kind a c f) (after_kind d i s p e g h) = absurd (kind_sound subject one text s p a g f)
  fault_same text n m k o (after_kind a i s p c g f) (too_long l) = absurd (omega arith)
  fault_same text n m k o (after_kind a i s p c g f) (in_kind d e h) = absurd (kind_sound subject one text s p d g h)
  fault_same text n m k o (after_kind a i s p c g f) (after_kind d j t q e h w) =
      let z = kind_same subject one text s t p q g h in
      rest_fault (subject t) q a d i j (subst (λ u. RestFault (subject u) q a i) z.0 (subst (λ r. RestFault (subject s) r a i) z.1 f)) w

  module _ {G : Type 0} (thing : G → Thing) (text : List ℕ) where
    -- reading gives the job that the text spells, whichever that is
    pub gives : (r : Result (Job G) Error) → ReadsBy subject thing text r → (j : Task) → Spells subject text j → Gives thing r j
    gives (Ok v) h j s = job_same text (task_by thing v) j h s
    gives (Err (Refused f)) h j s = job_sound text j f.fault f.line s h
    gives (Err Memory) h j s = tt

    -- and declines at the first fault, whichever that is
    pub declines : (r : Result (Job G) Error) → ReadsBy subject thing text r → (n : Fault) (k : ℕ) → Faulty subject text n k → Declines r n k
    declines (Ok v) h n k f = job_sound text (task_by thing v) n k h f
    declines (Err (Refused g)) h n k f = fault_same text g.fault n g.line k h f
    declines (Err Memory) h n k f = tt
