-- A visit to a square while the squares of a gluing are numbered.
use Rattle.std.proofs.Common.{◌≡◌, ℕ, ◌+◌, ◌<◌, List, length, take, get_or, sym, subst, add-one, arith}
use Rattle.std.proofs.lemmas.List.{get_or-take, length-take}
use Rattle.origami.specs.declared.gluing.Gluing.{Gluing}
use Rattle.origami.specs.declared.numbering.Numbering.{Numbering}
use Rattle.origami.specs.Gluings.{right_of, up_of, Inside}
use Rattle.origami.specs.Numberings.{Holds, Room}
use Rattle.origami.specs.Squares.{added, numbered}
use Rattle.origami.specs.laws.Numberings.{Listed, listed_added, order_listed}
use Rattle.origami.proofs.Marks.{room}

-- the squares after n visits
abbrev pub squares : Gluing → ℕ → ℕ → List ℕ
squares g x n = numbered (right_of g) (up_of g) x n

module _ (g : Gluing) (i : Inside g) (x : ℕ) (lx : x < g.degree) (n : ℕ) where
  listed : Listed (λ y. y < g.degree) x (squares g x n)
  listed = order_listed g.degree (right_of g) (up_of g) i.rights i.ups x lx n

  -- each entry of the order is a square
  pub held_below : (m : Numbering) → Holds x (squares g x n) m → (k : ℕ) → k < 16 → get_or m.order k 0 < g.degree
  held_below m h k l = subst (λ y. y < g.degree) (sym (h.order_is k l)) (listed.all k)

  -- z is the square to visit
  module _ (z : ℕ) (e : z ≡ get_or (squares g x n) n x) where
    z_below : z < g.degree
    z_below = subst (λ y. y < g.degree) (sym e) (listed.all n)

    pub room_right : (m : Numbering) → Holds x (squares g x n) m → Room m (right_of g z)
    room_right m h = let l = i.rights z z_below in room x (squares g x n) m h (right_of g z) (omega (arith, l, i.few)) g.degree i.few l listed

    pub room_up : (m : Numbering) → Holds x (added (right_of g z) (squares g x n)) m → Room m (up_of g z)
    room_up m h = let l = i.ups z z_below in
        room x (added (right_of g z) (squares g x n)) m h (up_of g z) (omega (arith, l, i.few)) g.degree i.few l
        (listed_added x (right_of g z) (squares g x n) (i.rights z z_below) listed)

    pub visit : (m : Numbering) → Holds x (added (up_of g z) (added (right_of g z) (squares g x n))) m → Holds x (squares g x (n + 1)) m
    visit m h = rw add-one (subst (λ y. Holds x (added (up_of g y) (added (right_of g y) (squares g x n))) m) e h)

  -- the entries of the order up to the degree are squares
  pub entry : (m : Numbering) → Holds x (squares g x n) m → length m.order ≡ 16 → (k : ℕ) → k < length (take g.degree m.order)
      → (k < 16) × (get_or (take g.degree m.order) k 0 ≡ get_or m.order k 0) × (get_or (take g.degree m.order) k 0 < g.degree)
  entry m h long k l =
      let b : (k < 16) × (k < g.degree) = (omega (arith, length-take g.degree m.order), omega (arith, length-take g.degree m.order)) in
      let e = get_or-take g.degree m.order k 0 b.1 in
      (b.0, e, omega (arith, e, held_below m h k b.0))
