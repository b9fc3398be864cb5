-- The text so far has a line for each matrix so far.
use Rattle.std.proofs.Common.{map, take, vec_items, string_bytes}
use Rattle.modular.specs.Matrix.{entries}
use Rattle.jobs.specs.Jobs.{level_task}
use Rattle.jobs.specs.Members.{AnswerAll, IsMember}
use Rattle.jobs.proofs.members.answers.Given as goal

abbrev pub invariant-loop-m : goal.invariant-loop-m
invariant-loop-m l = AnswerAll (IsMember (level_task l.job)) (map entries (take l.m-index (vec_items l.job.matrices))) (string_bytes l.text)
