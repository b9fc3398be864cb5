-- What is printed for a text.
--     Replies text r      r is accepted and is the listing of the job that the text spells; or it is declined, and names the first
--                         fault of the text, or that the table of its job has too many rows
use Rattle.std.specs.Prelude.{◌≡◌, ℕ, ◌⊎◌, List, string_bytes}
use Rattle.jobs.specs.Faults.{number_of}
use Rattle.jobs.specs.Jobs.{Task, SpellsJob, FirstFault}
use Rattle.jobs.specs.Replies.{refused_line}
use Rattle.jobs.specs.declared.fault.Fault.{Fault}
use Rattle.jobs.specs.declared.reply.Reply.{Reply}
use Rattle.jobs.specs.declared.reply.Reply.TheVariants.{Accepted, Declined}
use Rattle.listing.specs.declared.error.Error.{Error}
use Rattle.listing.specs.declared.error.Error.TheVariants as unlisted
use Rattle.table.specs.Refusals as refusals
use Rattle.answers.specs.Answers.{TabulatedFor, CrowdedFor}

abbrev pub Replies : List ℕ → Reply → Type 0
Replies text (Accepted s) = (j : Task) × SpellsJob text j × TabulatedFor j.thing j.mirror j.matrices (string_bytes s)
Replies text (Declined s) =
    ((f : Fault) × (k : ℕ) × FirstFault text f k × (string_bytes s ≡ refused_line (number_of f) k))
    ⊎ ((j : Task) × SpellsJob text j × CrowdedFor j.thing j.mirror × (string_bytes s ≡ refused_line 8 0))

-- a reply that names the table's refusal, which is no want of memory
abbrev pub NamesRefusal : Error → Reply → Type 0
NamesRefusal (unlisted.Declined x) (Declined s) = string_bytes s ≡ refused_line (refusals.number_of x) (refusals.place_of x)
NamesRefusal (unlisted.Declined x) (Accepted s) = ⊥
NamesRefusal unlisted.Memory p = ⊥
