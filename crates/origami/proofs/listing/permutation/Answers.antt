use Rattle.std.proofs.Common.{◌≡◌, refl, subst, arith}
use Rattle.origami.specs.Listings.{target}
use Rattle.origami.proofs.Filled.{Filled, filled_all}
use Rattle.origami.proofs.Listings.{Seen, seen_all, seen_twice}
use Rattle.origami.proofs.listing.permutation.Goals as goal
use Rattle.origami.proofs.listing.permutation.Goals.{then-n-eq0-via-then-n-eq0, then-n-eq0-via-else-n-eq0+then-n-degree, then-n-eq0-via-else-n-eq0+else-n-degree+then-seen-n}

pub returns-then-n-eq0 : goal.returns-then-n-eq0
returns-then-n-eq0 c =
    let i = c.loop-i.i in
    let d = c.args.degree in
    let xs = c.args.list.now in (
      refl,
      λ p. elim c.then-n-eq0.branch [
        | then-n-eq0-via-then-n-eq0 w ↦ omega (arith, (p.within i (omega arith)).0, w.if-n-eq0.true)
        | then-n-eq0-via-else-n-eq0+then-n-degree w ↦ omega (arith, (p.within i (omega arith)).1, w.if-n-degree.true)
        | then-n-eq0-via-else-n-eq0+else-n-degree+then-seen-n w ↦ seen_twice d i xs c.loop-i.seen c.requires (omega arith) c.loop-i.invariant.1 w.if-seen-n.true p
      ],
    )

pub returns : goal.returns
returns c =
    let d = c.args.degree in
    let xs = c.args.list.now in
    let e : c.loop-i.i ≡ d = omega arith in (
      seen_all d xs c.loop-i.seen c.if-list-degree.false (subst (λ n. Seen d n xs c.loop-i.seen) e c.loop-i.invariant.1),
      filled_all d (target xs) c.loop-i.squares (subst (λ n. Filled n (target xs) c.loop-i.squares) e c.loop-i.invariant.0),
    )
