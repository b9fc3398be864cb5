-- Which matrices belong to the group of a job, and the lines that say so.
--     InGroup k n m       m has the congruences modulo n that define the group of kind k
--     IsMember j m        m is a member of the action of the job j: that of the thing that it is about, or the mirror above that
--     Answers j text      the text has a line for each matrix of the job: member=yes or member=no
use Rattle.std.specs.Prelude.{◌≡◌, ℕ, Bool, true, false, List, [], ◌∷◌, ◌++◌, pos, codes, Decides}
use Rattle.modular.specs.Matrix.{M2}
use Rattle.modular.specs.Actions.{Member}
use Rattle.numbers.specs.Residues.{Cong}
use Rattle.jobs.specs.Jobs.{Task}
use Rattle.jobs.specs.Acting.{of_action}
use Rattle.jobs.specs.Objects.{Thing}
use Rattle.jobs.specs.declared.job.Kind.{Kind}
use Rattle.jobs.specs.declared.job.Kind.TheVariants.{Lines, Vectors, Matrices}

abbrev pub InGroup : Kind → ℕ → M2 → Type 0
InGroup Lines n m = Cong n m.c (pos 0)
InGroup Vectors n m = Cong n m.c (pos 0) × Cong n m.d (pos 1)
InGroup Matrices n m = Cong n m.a (pos 1) × Cong n m.b (pos 0) × Cong n m.c (pos 0) × Cong n m.d (pos 1)

-- the members of the action of a thing, or of its mirror
abbrev pub ActionMember : Thing → Bool → M2 → Type 0
ActionMember = of_action (λ R start t s. Member start t s)

abbrev pub IsMember : Task → M2 → Type 0
IsMember j m = ActionMember j.thing j.mirror m

abbrev pub answer_line : Bool → List ℕ
answer_line true = codes "member=yes" ++ 10 ∷ []
answer_line false = codes "member=no" ++ 10 ∷ []

-- the line yes where G holds of m, and the line no where it does not
abbrev pub Answer : (M2 → Type 0) → M2 → List ℕ → Type 0
Answer G m line = (b : Bool) × Decides b (G m) × (line ≡ answer_line b)

abbrev pub AnswerAll : (M2 → Type 0) → List M2 → List ℕ → Type 0
AnswerAll G [] text = text ≡ []
AnswerAll G (m ∷ ms) text = (line : List ℕ) × (rest : List ℕ) × (text ≡ line ++ rest) × Answer G m line × AnswerAll G ms rest

abbrev pub Answers : Task → List ℕ → Type 0
Answers j text = AnswerAll (IsMember j) j.matrices text
