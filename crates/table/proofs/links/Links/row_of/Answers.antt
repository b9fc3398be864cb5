-- One division takes T^q and S off the left of the matrix, and no entry leaves the range.
use Rattle.std.proofs.Common.{◌≡◌, ◌<◌, ◌≤◌, ℤ, pos, ◌-ℤ◌, ◌*ℤ◌, nat_abs, sym, ap, ◌∙◌, subst, arith, to_z-of_z, w64, SFits, to_z, of_z, rules}
use borrow.Author.Differences.{ints}
use lib.IntN.{+ℤ_idl}
use Rattle.numbers.specs.Division.{Quotient}
use Rattle.modular.specs.Matrix.{M2, det, entries}
use Rattle.modular.proofs.Reaching.{left, left_det}
use Rattle.modular.specs.declared.letter.Letter.TheVariants.{S}
use Rattle.table.specs.Links.{next}
use Rattle.table.specs.Placing.{steps_t, placed_in, placed}
use Rattle.table.proofs.Dividing.{Small, left_small, placed_step}
use Rattle.table.proofs.links.Links.row_of.Goals as goal

small_fits : (z : ℤ) → nat_abs z ≤ 1000000000 → SFits w64 z
small_fits z h = omega (arith, ints)

-- b and q·d − b are small, so q·d fits
product_fits : (p b : ℤ) → nat_abs b ≤ 1000000000 → nat_abs (p -ℤ b) ≤ 1000000000 → SFits w64 p
product_fits p b h k = omega (arith, ints)

-- a number goes to bits and is read again
abbrev again : ℤ → ℤ
again z = to_z w64 (of_z w64 z)

-- the numbers that are computed are the entries of what is left
computed : (x : M2) (q r : ℤ) → Small 1000000000 x → Small 1000000000 (left x q r) → SFits w64 q → SFits w64 r
    → record { a = again x.c; b = again x.d; c = again (pos 0 -ℤ again r); d = again (again (again q *ℤ again x.d) -ℤ again x.b) } ≡ left x q r
computed x q r h k f g =
    let fb = small_fits x.b h.b in
    let fc = small_fits x.c h.c in
    let fd = small_fits x.d h.d in
    let fp = product_fits (q *ℤ x.d) x.b h.b k.d in
    let turned : again (pos 0 -ℤ again r) ≡ (left x q r).c = simp (to_z-of_z g, +ℤ_idl) (to_z-of_z (small_fits (left x q r).c k.c)) in
    let last : again (again (again q *ℤ again x.d) -ℤ again x.b) ≡ (left x q r).d = simp (to_z-of_z f, to_z-of_z fd, to_z-of_z fb, to_z-of_z fp) (to_z-of_z (small_fits (left x q r).d k.d)) in
    λ i. record { a = to_z-of_z fc i; b = to_z-of_z fd i; c = turned i; d = last i }

-- what a division tells
record Divided (x : M2) (q r : ℤ) : Type 0 where
  quotient : Quotient x.a x.c q r
  q-fits : SFits w64 q
  r-fits : SFits w64 r
  small : Small 1000000000 (left x q r)

divided : (c : goal.After-next-row) → Divided (entries c.loop-q.m) c.in-Some.q c.in-Some.r
divided c =
    let x = entries c.loop-q.m in
    let q = c.in-Some.q in
    let r = c.in-Some.r in
    let h = c.loop-q.invariant.0 in
    let u : Quotient x.a x.c q r = simp (to_z-of_z (small_fits x.a h.a), to_z-of_z (small_fits x.c h.c)) at c.in-Some.ensures in
    let f : SFits w64 q = search rules in
    let g : SFits w64 r = search rules in
    record { quotient = u; q-fits = f; r-fits = g; small = left_small 1000000000 x q r (omega arith) h c.loop-q.invariant.1 u.whole u.small }

pub overflow_mul-m : goal.overflow_mul-m
overflow_mul-m c =
    let x = entries c.loop-q.m in
    let v = divided c in
    let h = c.loop-q.invariant.0 in
    simp (to_z-of_z v.q-fits, to_z-of_z (small_fits x.d h.d)) (product_fits (c.in-Some.q *ℤ x.d) x.b h.b v.small.d)

pub overflow_sub-m-in-Some : goal.overflow_sub-m-in-Some
overflow_sub-m-in-Some c =
    let x = entries c.loop-q.m in
    let v = divided c in
    let h = c.loop-q.invariant.0 in
    let fp = product_fits (c.in-Some.q *ℤ x.d) x.b h.b v.small.d in
    simp (to_z-of_z v.q-fits, to_z-of_z (small_fits x.d h.d), to_z-of_z (small_fits x.b h.b), to_z-of_z fp) (small_fits _ v.small.d)

pub loop-q-smaller : goal.loop-q-smaller
loop-q-smaller c =
    let x = entries c.loop-q.m in
    let v = divided c in
    let e = computed x c.in-Some.q c.in-Some.r c.loop-q.invariant.0 v.small v.q-fits v.r-fits in
    subst (λ y. nat_abs y.c < nat_abs x.c) (sym e) (omega (arith, ints, v.quotient.small))

pub loop-q-preserved : goal.loop-q-preserved
loop-q-preserved c =
    let links = c.args.self.links.now in
    let x = entries c.loop-q.m in
    let q = c.in-Some.q in
    let r = c.in-Some.r in
    let v = divided c in
    let e = computed x q r c.loop-q.invariant.0 v.small v.q-fits v.r-fits in
    let p = c.t_steps.ensures ∙ ap (λ z. steps_t links z c.loop-q.row) (to_z-of_z v.q-fits) in
    let step = placed_step links x q r c.loop-q.row c.next-row.result v.quotient (c.next-row.ensures ∙ ap (next links S) p) in
    subst (λ y. Small 1000000000 y × (det y ≡ pos 1) × (placed_in links (nat_abs y.c) y c.next-row.result ≡ placed links (entries c.args.m))) (sym e)
    (v.small, left_det x q r v.quotient.whole c.loop-q.invariant.1, step ∙ c.loop-q.invariant.2)
