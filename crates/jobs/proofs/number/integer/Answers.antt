-- A field with a minus spells what its digits do, below 0.
use Rattle.std.proofs.Common.{[], ◌∷◌, refl, inl, inr}
use Rattle.std.proofs.lemmas.Slice.Eq.{strip_prefix_is}
use Rattle.std.proofs.lemmas.Option.{MatchOption-at_some}
use Rattle.jobs.proofs.Fields.{held, held_negative}
use Rattle.jobs.proofs.number.integer.Goals as goal
use Rattle.std.proofs.lemmas.Bool.Decides.{Decides-eqb}

pub returns-in_ok-natural-in-Some : goal.returns-in_ok-natural-in-Some
returns-in_ok-natural-in-Some c =
    let a = c.in_ok-natural-in-Some.ensures in
    let e = MatchOption-at_some _ _ _ c.in-Some.is (strip_prefix_is Decides-eqb c.args.field.now (45 ∷ []) c.strip_prefix.result c.strip_prefix.ensures.cases) in
    (_, inr (_, e, a.0, refl), held_negative _ _ _ c.from.ensures a.1)

pub returns-in_ok-natural-in-None : goal.returns-in_ok-natural-in-None
returns-in_ok-natural-in-None c =
    let a = c.in_ok-natural-in-None.ensures in
    (_, inl (a.0, refl), held _ _ _ c.from-in-None.ensures a.1)
