-- One matrix more is one line more.
use Rattle.std.proofs.Common.{◌<◌, [], ◌∷◌, ◌++◌, map, length, get_or, take, vec_items, string_bytes, Decides, sym, ap, ◌∙◌, subst}
use Rattle.std.proofs.lemmas.List.{take_more, map-append}
use Rattle.modular.specs.Matrix.{M2, entries}
use Rattle.jobs.specs.Jobs.{level_task}
use Rattle.jobs.specs.Members.{AnswerAll, IsMember}
use Rattle.jobs.proofs.Belonging.{answered_more}
use Rattle.jobs.proofs.members.answers.Goals as goal

pub loop-m-preserved : goal.loop-m-preserved
loop-m-preserved c =
    let v = vec_items c.args.job.now.matrices in
    let i = c.loop-m.m-index in
    let same = c.deref-m-items.ensures.value in
    let h : i < length v = subst (λ l. i < length l) same c.loop-m-test.true in
    let G : M2 → Type 0 = IsMember (level_task c.args.job.now) in
    let d : Decides c.is_member.result (G (entries (get_or v i []))) = subst (λ l. Decides c.is_member.result (G (entries (get_or l i [])))) same c.is_member.ensures in
    let more = answered_more G (map entries (take i v)) (entries (get_or v i [])) _ c.answer.result.now c.loop-m.invariant (c.is_member.result, d, c.answer.ensures) in
    let list = ap (map entries) (take_more v i [] h) ∙ map-append entries (take i v) (get_or v i [] ∷ []) in
    subst (λ l. AnswerAll G l (string_bytes c.push_str.new.self)) (sym list)
    (subst (AnswerAll G (map entries (take i v) ++ entries (get_or v i []) ∷ [])) (sym c.in_ok-push_str.ensures.bytes) more)
