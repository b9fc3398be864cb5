-- The first field ends at the first comma, since no field that spells a number has one.
use Rattle.std.proofs.Common.{◌≡◌, None, Some, sym, ◌∙◌, subst, arith}
use Rattle.std.proofs.lemmas.Option.{MatchOption-at_some, MatchOption-at_none}
use Rattle.std.proofs.lemmas.Result.{err_from_is_err_and}
use Rattle.jobs.specs.Bytes.{Lacks, Split}
use Rattle.jobs.specs.Numbers.{Spells}
use Rattle.jobs.specs.declared.fault.FieldFault.TheVariants.{Unreadable}
use Rattle.jobs.proofs.Cuts.{lacked, one_split}
use Rattle.jobs.proofs.Fields.{spelt_lacks}
use Rattle.jobs.proofs.lines.entry_then.Goals as goal
use Rattle.jobs.proofs.lines.entry_then.Goals.{In_ok-field}

pub returns-in_err-field : goal.returns-in_err-field
returns-in_err-field c =
    let p = err_from_is_err_and c.from_residual.result c.from_residual.ensures.1 in
    let n : c.split.result ≡ None = grind arith in
    let f : c.in_err-field.field-0.0 ≡ Unreadable = grind arith in
    rw (p.1, p.2) (f, λ z rest e. lacked 44 e.field rest (subst (Lacks 44) e.whole (MatchOption-at_none _ _ n c.split.ensures)))

-- the field and the rest are those of the first comma
cut : (c : In_ok-field) → Split 44 c.args.body.now c.in_ok-field.field.now c.in_ok-field.rest.now
cut c = let s : c.split.result ≡ Some (c.in_ok-field.field, c.in_ok-field.rest) = grind arith in MatchOption-at_some _ _ _ s c.split.ensures

pub returns-in_err-integer : goal.returns-in_err-integer
returns-in_err-integer c =
    let p = err_from_is_err_and c.from_residual-in_err-integer.result c.from_residual-in_err-integer.ensures.1 in
    let a = c.in_err-integer.ensures in
    let s = cut (goal.at.returns-in_err-integer c).In_ok-field in
    rw (p.1, p.2) (
      a.0,
      λ z rest e.
          let f = (one_split 44 e.field _ rest _ (spelt_lacks e.field z e.spells) s.first (sym e.whole ∙ s.whole)).0 in
          a.1 z (subst (λ g. Spells g z) f e.spells),
    )
