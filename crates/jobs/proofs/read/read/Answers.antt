-- The first line passes, then the lines that say what the job is about, and then the tail is read.
use Rattle.std.proofs.Common.{ℕ, List, Result, subst}
use Rattle.std.proofs.lemmas.Result.{err_from_is_err_and}
use Rattle.jobs.specs.Format.{every, KindLine}
use Rattle.jobs.specs.Jobs.{Task, SpellsJob, FirstFault, Reads, Gives, Declines}
use Rattle.jobs.specs.Objects.{thing_of}
use Rattle.jobs.specs.declared.fault.Error.{Error}
use Rattle.jobs.specs.declared.fault.Error.TheVariants.{Refused}
use Rattle.jobs.specs.declared.fault.Fault.{Fault}
use Rattle.jobs.specs.declared.job.Given.{Given}
use Rattle.jobs.specs.declared.job.Given.TheVariants as given
use Rattle.jobs.specs.declared.job.Job.{Job}
use Rattle.jobs.proofs.Passing.{named_fails, reads_tail}
use Rattle.jobs.proofs.OneReading.{gives, declines}
use Rattle.jobs.proofs.read.read.Goals as goal

-- subjects are told by themselves
given_whole : (text : List ℕ) (r : Result (Job Given) Error) → Reads text r → (j : Task) → SpellsJob text j → Gives thing_of r j
given_whole = gives every (λ r s e. e) thing_of

declined_whole : (text : List ℕ) (r : Result (Job Given) Error) → Reads text r → (f : Fault) (k : ℕ) → FirstFault text f k → Declines r f k
declined_whole = declines every (λ r s e. e) thing_of

pub returns-in_err-subject : goal.returns-in_err-subject
returns-in_err-subject c =
    let text = c.args.text.now in
    let r = c.from_residual.result in
    let p = err_from_is_err_and r c.from_residual.ensures.1 in
    let h : Reads text r = rw (p.1, p.2) c.in_err-subject.ensures.0 in
    record { reads = h; accepts = given_whole text r h; first_fault = declined_whole text r h }

pub returns-in_err-object-in-Level : goal.returns-in_err-object-in-Level
returns-in_err-object-in-Level c =
    let text = c.args.text.now in
    let r = c.from_residual-in_err-object-in-Level.result in
    let p = err_from_is_err_and r c.from_residual-in_err-object-in-Level.ensures.1 in
    let l = subst (λ s. KindLine every text s c.in_ok-subject.rest.now) c.in-Level.is c.in_ok-subject.ensures.1 in
    let h : Reads text r = rw (p.1, p.2) (named_fails every text _ _ c.in_ok-subject.ensures.0 l (Refused c.in_err-object-in-Level.field-0.0) c.in_err-object-in-Level.ensures) in
    record { reads = h; accepts = given_whole text r h; first_fault = declined_whole text r h }

pub returns-in_ok-object-in-Level : goal.returns-in_ok-object-in-Level
returns-in_ok-object-in-Level c =
    let text = c.args.text.now in
    let r = c.tail.result in
    let l = subst (λ s. KindLine every text s c.in_ok-subject.rest.now) c.in-Level.is c.in_ok-subject.ensures.1 in
    let h : Reads text r = reads_tail every text _ _ c.in_ok-subject.ensures.0 l thing_of (given.Level c.in_ok-object-in-Level.object) _ c.in_ok-object-in-Level.ensures r c.tail.ensures in
    record { reads = h; accepts = given_whole text r h; first_fault = declined_whole text r h }

pub returns-in_err-origami-in-Origami : goal.returns-in_err-origami-in-Origami
returns-in_err-origami-in-Origami c =
    let text = c.args.text.now in
    let r = c.from_residual-in_err-origami-in-Origami.result in
    let p = err_from_is_err_and r c.from_residual-in_err-origami-in-Origami.ensures.1 in
    let l = subst (λ s. KindLine every text s c.in_ok-subject.rest.now) c.in-Origami.is c.in_ok-subject.ensures.1 in
    let h : Reads text r = rw (p.1, p.2) (named_fails every text _ _ c.in_ok-subject.ensures.0 l _ c.in_err-origami-in-Origami.ensures) in
    record { reads = h; accepts = given_whole text r h; first_fault = declined_whole text r h }

pub returns-in_ok-origami-in-Origami : goal.returns-in_ok-origami-in-Origami
returns-in_ok-origami-in-Origami c =
    let text = c.args.text.now in
    let r = c.tail-in-Origami.result in
    let l = subst (λ s. KindLine every text s c.in_ok-subject.rest.now) c.in-Origami.is c.in_ok-subject.ensures.1 in
    let h : Reads text r = reads_tail every text _ _ c.in_ok-subject.ensures.0 l thing_of (given.Origami c.in_ok-origami-in-Origami.origami) _ c.in_ok-origami-in-Origami.ensures r c.tail-in-Origami.ensures in
    record { reads = h; accepts = given_whole text r h; first_fault = declined_whole text r h }
