use Rattle.std.proofs.Common.{◌≡◌, ℕ, ◌<◌, List, length, get_or, take, ap, ◌∙◌, subst, arith, rules}
use Rattle.std.proofs.lemmas.List.{length-take}
use Rattle.origami.specs.declared.gluing.Enclosed.{Enclosed}
use Rattle.origami.specs.declared.numbering.Numbering.{Numbering}
use Rattle.origami.specs.Forms.{order, reading}
use Rattle.origami.specs.Gluings.{right_of, up_of}
use Rattle.origami.specs.Numberings.{Holds}
use Rattle.origami.specs.Squares.{place, renumbered}
use Rattle.origami.proofs.Filled.{Filled, filled_more, filled_all}
use Rattle.origami.proofs.Visits.{entry}
use Rattle.origami.proofs.gluing.Enclosed.reading.Goals as goal

-- the square at which the loop is
square : (s : Enclosed) (x : ℕ) → x < s.gluing.degree → (m : Numbering) → Holds x (order s.gluing x) m → length m.order ≡ 16
    → (k : ℕ) → k < length (take s.gluing.degree m.order)
    → (k < 16) × (get_or (take s.gluing.degree m.order) k 0 ≡ get_or m.order k 0) × (get_or (take s.gluing.degree m.order) k 0 < s.gluing.degree)
square s x l m h = entry s.gluing s.ok x l s.gluing.degree m h

pub bounds-g-square : goal.bounds-g-square
bounds-g-square c =
    let long : length c.new-n.result.order ≡ 16 = search rules in
    omega (arith, (square c.args.self c.args.first c.requires c.new-n.result c.new-n.ensures long c.loop-i.i c.loop-i-test.true).2, c.args.self.ok.few)

pub of-requires : goal.of-requires
of-requires c =
    let long : length c.new-n.result.order ≡ 16 = search rules in
    let b = square c.args.self c.args.first c.requires c.new-n.result c.new-n.ensures long c.loop-i.i c.loop-i-test.true in
    omega (arith, c.args.self.ok.rights _ b.2, c.args.self.ok.few)

pub bounds-g-square-in-loop-i : goal.bounds-g-square-in-loop-i
bounds-g-square-in-loop-i c =
    let long : length c.new-n.result.order ≡ 16 = search rules in
    omega (arith, (square c.args.self c.args.first c.requires c.new-n.result c.new-n.ensures long c.loop-i.i c.loop-i-test.true).2, c.args.self.ok.few)

pub of-requires-in-loop-i : goal.of-requires-in-loop-i
of-requires-in-loop-i c =
    let long : length c.new-n.result.order ≡ 16 = search rules in
    let b = square c.args.self c.args.first c.requires c.new-n.result c.new-n.ensures long c.loop-i.i c.loop-i-test.true in
    omega (arith, c.args.self.ok.ups _ b.2, c.args.self.ok.few)

pub loop-i-preserved : goal.loop-i-preserved
loop-i-preserved c =
    let g = c.args.self.gluing in
    let x = c.args.first in
    let xs = order g x in
    let i = c.loop-i.i in
    let long : length c.new-n.result.order ≡ 16 = search rules in
    let b = square c.args.self x c.requires c.new-n.result c.new-n.ensures long i c.loop-i-test.true in
    let e = b.1 ∙ c.new-n.ensures.order_is i b.0 in (
      filled_more (renumbered (right_of g) x xs) i c.loop-i.right c.of.result b.0
          (c.of.ensures x xs c.new-n.ensures ∙ ap (λ y. place (right_of g y) xs) e) c.loop-i.invariant.0,
      filled_more (renumbered (up_of g) x xs) i c.loop-i.up c.of-in-loop-i.result b.0
          (c.of-in-loop-i.ensures x xs c.new-n.ensures ∙ ap (λ y. place (up_of g y) xs) e) c.loop-i.invariant.1,
    )

pub returns : goal.returns
unfolding reading
returns c =
    let g = c.args.self.gluing in
    let x = c.args.first in
    let long : length c.new-n.result.order ≡ 16 = search rules in
    let e : c.loop-i.i ≡ g.degree = omega (arith, length-take g.degree c.new-n.result.order, long, c.args.self.ok.few) in
    let all = λ (h : ℕ → ℕ) (xs : List ℕ) (f : Filled c.loop-i.i h xs). filled_all g.degree h xs (subst (λ n. Filled n h xs) e f) in
    λ t. record {
      degree = g.degree;
      right = all (renumbered (right_of g) x (order g x)) c.loop-i.right c.loop-i.invariant.0 t;
      up = all (renumbered (up_of g) x (order g x)) c.loop-i.up c.loop-i.invariant.1 t;
    }
