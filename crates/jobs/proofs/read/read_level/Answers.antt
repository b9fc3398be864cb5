-- The first line passes, then the level line, and then the tail is read.
use Rattle.std.proofs.Common.{◌≡◌, ℕ, List, Result, subst, Err}
use Rattle.std.proofs.lemmas.Result.{err_from_is_err_and}
use Rattle.jobs.specs.Format.{every, KindLine}
use Rattle.jobs.specs.Jobs.{Task, SpellsLevelJob, FirstLevelFault, in_kind, ReadsLevel, Gives, Declines}
use Rattle.jobs.specs.Objects.{level_thing}
use Rattle.jobs.specs.declared.fault.Error.{Error}
use Rattle.jobs.specs.declared.fault.Error.TheVariants.{Refused}
use Rattle.jobs.specs.declared.fault.Fault.{Fault}
use Rattle.jobs.specs.declared.fault.Fault.TheVariants.{Form}
use Rattle.jobs.specs.declared.job.Job.{Job}
use Rattle.jobs.specs.declared.job.Kind.{Kind}
use Rattle.jobs.specs.declared.job.Object.{Object}
use Rattle.jobs.specs.declared.job.Subject.TheVariants.{Level}
use Rattle.jobs.proofs.Alone.{level_kind, origami_no_kind}
use Rattle.jobs.proofs.Passing.{named_fails, reads_tail}
use Rattle.jobs.proofs.OneReading.{gives, declines}
use Rattle.jobs.proofs.read.read_level.Goals as goal

-- kinds are told apart as subjects
one_level : (j k : Kind) → Level j ≡ Level k → j ≡ k
one_level j k e = cc

given_whole : (text : List ℕ) (r : Result (Job Object) Error) → ReadsLevel text r → (j : Task) → SpellsLevelJob text j → Gives level_thing r j
given_whole = gives Level one_level level_thing

declined_whole : (text : List ℕ) (r : Result (Job Object) Error) → ReadsLevel text r → (f : Fault) (k : ℕ) → FirstLevelFault text f k → Declines r f k
declined_whole = declines Level one_level level_thing

pub returns-in_err-subject : goal.returns-in_err-subject
returns-in_err-subject c =
    let text = c.args.text.now in
    let r = c.from_residual.result in
    let p = err_from_is_err_and r c.from_residual.ensures.1 in
    let h : ReadsLevel text r = rw (p.1, p.2) c.in_err-subject.ensures.1 in
    record { reads = h; accepts = given_whole text r h; first_fault = declined_whole text r h }

pub returns-in_default : goal.returns-in_default
returns-in_default c =
    let text = c.args.text.now in
    let r : Result (Job Object) Error = Err (Refused (record { fault = Form; line = 1 })) in
    let l = subst (λ s. KindLine every text s c.in_ok-subject.rest.now) c.in_default.is c.in_ok-subject.ensures.1 in
    let h = in_kind Form c.in_ok-subject.ensures.0 (origami_no_kind text _ l) in
    record { reads = h; accepts = given_whole text r h; first_fault = declined_whole text r h }

pub returns-in_err-object : goal.returns-in_err-object
returns-in_err-object c =
    let text = c.args.text.now in
    let r = c.from_residual-in_err-object.result in
    let p = err_from_is_err_and r c.from_residual-in_err-object.ensures.1 in
    let l = level_kind text _ _ (subst (λ s. KindLine every text s c.in_ok-subject.rest.now) c.in-Level.is c.in_ok-subject.ensures.1) in
    let h : ReadsLevel text r = rw (p.1, p.2) (named_fails Level text _ _ c.in_ok-subject.ensures.0 l (Refused c.in_err-object.field-0.0) c.in_err-object.ensures) in
    record { reads = h; accepts = given_whole text r h; first_fault = declined_whole text r h }

pub returns : goal.returns
returns c =
    let text = c.args.text.now in
    let r = c.tail.result in
    let l = level_kind text _ _ (subst (λ s. KindLine every text s c.in_ok-subject.rest.now) c.in-Level.is c.in_ok-subject.ensures.1) in
    let h : ReadsLevel text r = reads_tail Level text _ _ c.in_ok-subject.ensures.0 l level_thing c.in_ok-object.object _ c.in_ok-object.ensures r c.tail.ensures in
    record { reads = h; accepts = given_whole text r h; first_fault = declined_whole text r h }
