use Rattle.std.proofs.Common.{◌≡◌, ℕ, List, length, sym, ap, ◌∙◌, subst}
use Rattle.std.proofs.lemmas.Bool.{eqb-true, eqb-false}
use Rattle.origami.specs.declared.gluing.Gluing.{Gluing}
use Rattle.origami.specs.Forms.{order}
use Rattle.origami.specs.Gluings.{Inside, padded}
use Rattle.origami.specs.Listings.{target, listed}
use Rattle.origami.proofs.Listings.{listed_inside, whole_all_reached, all_reached_whole}
use Rattle.origami.proofs.listing.listed.Goals as goal

-- a gluing whose entries are those of the lists is theirs
same_gluing : (xs ys : List ℕ) {rs us : List ℕ} → rs ≡ padded (length xs) (target xs) → us ≡ padded (length xs) (target ys)
    → ◌≡◌ {A = Gluing} (record { degree = length xs; right = rs; up = us }) (listed xs ys)
same_gluing xs ys p q = λ i. record { degree = length xs; right = p i; up = q i }

pub invariant_of-squares : goal.invariant_of-squares
invariant_of-squares c =
    let xs = c.args.right.now in
    let ys = c.args.up.now in
    let p = c.in_ok-listed_right.ensures in
    let q = c.in_ok-permutation.ensures in
    record { ok = subst Inside (sym (same_gluing xs ys p.1 q.1)) (listed_inside xs ys p.0.0 p.0.1 q.0) }

pub returns-then-not-is_whole : goal.returns-then-not-is_whole
returns-then-not-is_whole c =
    let xs = c.args.right.now in
    let ys = c.args.up.now in
    let p = c.in_ok-listed_right.ensures in
    let q = c.in_ok-permutation.ensures in
    let e = ap (λ g. length (order g 0)) (same_gluing xs ys p.1 q.1) in
    (p.0.0, p.0.1, q.0, λ r. eqb-false _ (length xs) (sym c.is_whole.ensures ∙ c.if-not-is_whole.true) (e ∙ all_reached_whole xs ys p.0.0 p.0.1 q.0 r))

pub returns : goal.returns
returns c =
    let xs = c.args.right.now in
    let ys = c.args.up.now in
    let p = c.in_ok-listed_right.ensures in
    let q = c.in_ok-permutation.ensures in
    let same = same_gluing xs ys p.1 q.1 in
    let whole = eqb-true _ (length xs) (sym c.is_whole.ensures ∙ c.if-not-is_whole.false) in (
      record { fit = p.0.0; rights = p.0.1; ups = q.0; reached = whole_all_reached xs ys p.0.0 p.0.1 q.0 (ap (λ g. length (order g 0)) (sym same) ∙ whole) },
      same,
    )
