-- Each turn takes the number of one field.
use Rattle.std.proofs.Common.{min, [], ◌∷◌, ◌++◌, sym, refl, ap, ◌∙◌, subst, rules, tests}
use Rattle.std.proofs.lemmas.Iterator.Consumers.{YieldsList-turn, YieldsList-end}
use Rattle.std.proofs.lemmas.Iterator.Splits.{YieldsList-from_slice_split}
use Rattle.std.proofs.lemmas.List.{map-append}
use Rattle.std.proofs.lemmas.Slice.{pushed}
use Rattle.std.proofs.lemmas.Result.{err_from_is_err_and}
use Rattle.jobs.specs.declared.fault.Fault.TheVariants.{Field}
use Rattle.jobs.specs.Numbers.{Digits, value}
use Rattle.jobs.proofs.Listed.{EachSays, comma, says_more, says_at, said_fields, fields_say}
use Rattle.jobs.proofs.list.numbers.Goals as goal

pub returns-in_err-natural : goal.returns-in_err-natural
returns-in_err-natural c =
    let t = YieldsList-turn (YieldsList-from_slice_split _ comma c.args.body.now (cc) (cc) (cc) (λ x r q k. search (rules, tests))) c.loop-field.yielded _ c.loop-field.yielded_by _ _ c.in-Some.field c.in-Some.is c.next.ensures.steps in
    let p = err_from_is_err_and c.from_residual.result c.from_residual.ensures.1 in
    let a = c.in_err-natural.ensures in
    rw (p.1, p.2) (ap Field a.0, λ ns s. a.1 (subst Digits (sym t.1) (says_at _ ns _ c.in-Some.field.now (said_fields _ ns s) t.0)))

pub loop-field-preserved : goal.loop-field-preserved
loop-field-preserved c =
    let i = c.loop-field.invariant in
    let a = c.in_ok-natural.ensures in
    let n = value c.in-Some.field.now in
    let fields = map-append (λ f. f.now) c.loop-field.yielded (c.in-Some.field ∷ []) in
    let items = pushed (_ ∷ []) refl c.in_ok-push.was c.push.ensures.items in
    let all = map-append (λ n. min n 1000000001) i.0 (n ∷ []) in (
      i.0 ++ n ∷ [],
      subst (λ fs. EachSays fs (i.0 ++ n ∷ [])) (sym fields) (says_more _ i.0 _ n i.1 (a.0, refl)),
      items ∙ (λ k. i.2 k ++ a.1 k ∷ []) ∙ sym all,
    )

pub returns : goal.returns
returns c =
    let t = YieldsList-end (YieldsList-from_slice_split _ comma c.args.body.now (cc) (cc) (cc) (λ x r q k. search (rules, tests))) c.loop-field.yielded _ c.loop-field.yielded_by _ _ c.in-None.is c.next.ensures.steps in
    let i = c.loop-field.invariant in
    (i.0, fields_say _ i.0 (subst (λ fs. EachSays fs i.0) t.0 i.1), i.2)
