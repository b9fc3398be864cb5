-- The listing of the job that was read, or why there is none.
use Rattle.std.proofs.Common.{List, ℕ, IfOk, Ok, Err, Result, ap, ◌∙◌, inr}
use Rattle.std.specs.declared.alloc.AllocError.{AllocError}
use Rattle.listing.specs.declared.error.Error.{Error}
use Rattle.listing.specs.declared.error.Error.TheVariants.{Declined, Memory}
use Rattle.table.specs.Refusals.{number_of, place_of}
use Rattle.jobs.specs.Jobs.{Task, SpellsJob, task}
use Rattle.jobs.specs.Replies.{refused_line}
use Rattle.jobs.specs.declared.reply.Reply.{Reply}
use Rattle.jobs.specs.declared.reply.Reply.TheVariants as reply
use Rattle.answers.specs.Answers.{GrownFor}
use Rattle.answers.specs.Replies.{NamesRefusal, Replies}
use Rattle.answers.proofs.Replying.{grown_lists, grown_crowds, job_placed}
use Rattle.answers.proofs.reply.reply_to.Goals as goal

pub returns-in-Ok-answer : goal.returns-in-Ok-answer
returns-in-Ok-answer c =
    let j = task c.in-Ok.job in
    (j, c.in-Ok.ensures.reads, grown_lists j.thing j.mirror j.matrices c.in-Ok-answer.text c.in-Ok-answer.ensures)

-- a refusal of the table's says that it has too many rows
crowded : (text : List ℕ) (j : Task) (e : Error) (r : Result Reply AllocError) → SpellsJob text j → GrownFor j.thing j.mirror j.matrices (Err e)
    → IfOk r (NamesRefusal e) → IfOk r (Replies text)
crowded text j e (Err f) s g h = tt
crowded text j (Declined x) (Ok (reply.Declined t)) s g h =
    let c = grown_crowds j.thing j.mirror j.matrices x g (job_placed text j x s) in
    inr (j, s, c.1, h ∙ ap (λ x. refused_line (number_of x) (place_of x)) c.0)
crowded text j (Declined x) (Ok (reply.Accepted t)) s g h = absurd h
crowded text j Memory (Ok p) s g h = absurd h

pub returns-in-Ok : goal.returns-in-Ok
returns-in-Ok c = crowded c.args.text.now (task c.in-Ok.job) _ _ c.in-Ok.ensures.reads c.in-Err-answer.ensures c.unlisted.ensures
