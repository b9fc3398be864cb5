use Rattle.std.proofs.Common.{◌≡◌, ◌<◌, true, sym, ◌∙◌, refl, subst, inl, inr, arith}
use Rattle.origami.specs.Origamis.{inside_below}
use Rattle.origami.proofs.Insides.{inside_facts, none_inside, many_inside, unmet_inside, met_inside}
use Rattle.origami.proofs.gluing.Gluing.enclosed.Goals as goal

pub returns-then-self-eq0 : goal.returns-then-self-eq0
returns-then-self-eq0 c = let g = c.args.self in elim c.then-self-eq0.either [
  | inl e ↦ sym (none_inside g e)
  | inr p ↦ sym (many_inside g p.1)
]

pub returns-then-not-has_neighbours : goal.returns-then-not-has_neighbours
returns-then-not-has_neighbours c =
    sym (unmet_inside c.args.self c.loop-square.square (omega arith) (sym c.has_neighbours.ensures ∙ c.if-not-has_neighbours.true))

pub invariant_of-result : goal.invariant_of-result
invariant_of-result c =
    let g = c.args.self in
    let e : c.loop-square.square ≡ g.degree = omega arith in
    let all = subst (λ n. inside_below g n ≡ true) e c.loop-square.invariant in
    let z : 0 < g.degree = omega arith in
    record { ok = inside_facts g (sym (met_inside g z (omega arith) all)) }

pub returns : goal.returns
returns c =
    let g = c.args.self in
    let e : c.loop-square.square ≡ g.degree = omega arith in
    let all = subst (λ n. inside_below g n ≡ true) e c.loop-square.invariant in
    let z : 0 < g.degree = omega arith in
    (sym (met_inside g z (omega arith) all), refl)
