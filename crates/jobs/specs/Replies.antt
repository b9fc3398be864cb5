-- What is printed for the text of a level job.
--     refused_line n k      the line that names the fault of number n on line k
--     Replies text r        r is accepted and answers the job that the text spells, or is declined and names its first fault
use Rattle.std.specs.Prelude.{◌≡◌, ℕ, List, [], ◌∷◌, ◌++◌, codes, decimal, string_bytes}
use Rattle.jobs.specs.Faults.{number_of}
use Rattle.jobs.specs.Jobs.{Task, SpellsLevelJob, FirstLevelFault}
use Rattle.jobs.specs.Members.{Answers}
use Rattle.jobs.specs.declared.fault.Error.{Error}
use Rattle.jobs.specs.declared.fault.Error.TheVariants.{Refused, Memory}
use Rattle.jobs.specs.declared.fault.Fault.{Fault}
use Rattle.jobs.specs.declared.reply.Reply.{Reply}
use Rattle.jobs.specs.declared.reply.Reply.TheVariants.{Accepted, Declined}

abbrev pub refused_line : ℕ → ℕ → List ℕ
refused_line n k = (codes "refused=" ++ (decimal n ++ (codes "," ++ decimal k))) ++ 10 ∷ []

-- the bytes of a reply
abbrev pub reply_bytes : Reply → List ℕ
reply_bytes (Accepted s) = string_bytes s
reply_bytes (Declined s) = string_bytes s

abbrev pub Replies : List ℕ → Reply → Type 0
Replies text (Accepted s) = (j : Task) × SpellsLevelJob text j × Answers j (string_bytes s)
Replies text (Declined s) = (f : Fault) × (k : ℕ) × FirstLevelFault text f k × (string_bytes s ≡ refused_line (number_of f) k)

-- a reply that names the fault of an error, which is no want of memory
abbrev pub NamesFault : Error → Reply → Type 0
NamesFault (Refused r) (Declined s) = string_bytes s ≡ refused_line (number_of r.fault) r.line
NamesFault (Refused r) (Accepted s) = ⊥
NamesFault Memory p = ⊥
