-- Pairs of permutations whose numberings have all squares: those where each square is reached from square 0.
use Rattle.std.specs.Prelude.{◌≡◌, ℕ, ◌<◌, length}
use Rattle.std.proofs.Common.{sym, ◌∙◌, ap, subst, arith}
use Rattle.std.proofs.lemmas.List.{length-map}
use Rattle.origami.specs.Squares.{Into, Permutes, inverse, Reached, here, right, up, Carries, place, numbered}
use Rattle.origami.specs.laws.Injections.{joined_permutes, undone, inverse_into, inverse_permutes, onto}
use Rattle.origami.specs.laws.Numberings.{listed_short, listed_full, full_long, numbered_listed, order_listed, order_right, order_up, order_first, kept_back}
use Rattle.origami.specs.laws.Places.{In, at_place}
use Rattle.origami.specs.laws.Renumberings.{numbered_map}

-- a numbering has all squares, from whichever square it starts
abbrev pub Whole : ℕ → (ℕ → ℕ) → (ℕ → ℕ) → Type 0
Whole d f g = (x : ℕ) → x < d → length (numbered f g x d) ≡ d

module _ (d : ℕ) (f g : ℕ → ℕ) (a : Into d f) (b : Into d g) (x : ℕ) (lx : x < d) where
  -- a numbering that has each square has d of them
  full : ((y : ℕ) → y < d → In y (numbered f g x d)) → length (numbered f g x d) ≡ d
  full h = let xs = numbered f g x d in
      omega (arith, full_long d x xs h, listed_short d x xs (order_listed d f g a b x lx d))

  -- what a whole numbering has, holds of each square
  pub whole_all : {P : ℕ → Type 0} → length (numbered f g x d) ≡ d
      → P x → ((y : ℕ) → P y → P (f y)) → ((y : ℕ) → P y → P (g y)) → (y : ℕ) → y < d → P y
  whole_all {P} w p r u y l =
      let xs = numbered f g x d in
      subst P (at_place y xs x (listed_full d x xs (order_listed d f g a b x lx d) w y l)) ((numbered_listed f g x p r u d).all (place y xs))

-- each square is reached

pub whole_reached : (d : ℕ) (f g : ℕ → ℕ) → Into d f → Into d g → 0 < d → length (numbered f g 0 d) ≡ d → (i : ℕ) → i < d → Reached f g i
whole_reached d f g a b z w = whole_all d f g a b 0 z w here (λ y r. right r) (λ y r. up r)

module _ (d : ℕ) (f g : ℕ → ℕ) (p : Permutes d f) (q : Permutes d g) (z : 0 < d) where
  reached_below : {i : ℕ} → Reached f g i → i < d
  reached_below here = z
  reached_below (right r) = p.0 _ (reached_below r)
  reached_below (up r) = q.0 _ (reached_below r)

  module _ (x : ℕ) (lx : x < d) where
    -- what is reached from square 0 leads back to it
    back_to_0 : {i : ℕ} → Reached f g i → In i (numbered f g x d) → In 0 (numbered f g x d)
    back_to_0 here h = h
    back_to_0 (right {i} r) h = back_to_0 r (kept_back d x (numbered f g x d) (order_listed d f g p.0 q.0 x lx d) f p
        (order_right d f g p.0 q.0 x lx) i (reached_below r) h)
    back_to_0 (up {i} r) h = back_to_0 r (kept_back d x (numbered f g x d) (order_listed d f g p.0 q.0 x lx d) g q
        (order_up d f g p.0 q.0 x lx) i (reached_below r) h)

    on_from_0 : {i : ℕ} → Reached f g i → In 0 (numbered f g x d) → In i (numbered f g x d)
    on_from_0 here h = h
    on_from_0 (right {i} r) h = order_right d f g p.0 q.0 x lx i (on_from_0 r h)
    on_from_0 (up {i} r) h = order_up d f g p.0 q.0 x lx i (on_from_0 r h)

  pub reached_whole : ((i : ℕ) → i < d → Reached f g i) → Whole d f g
  reached_whole r x lx =
      let zero_in = back_to_0 x lx (r x lx) (order_first d f g p.0 q.0 x lx) in
      full d f g p.0 q.0 x lx (λ y l. on_from_0 x lx (r y l) zero_in)

-- a renumbering of a whole pair is whole
pub carries_whole : {d : ℕ} {σ f g h k : ℕ → ℕ} → Carries d σ f g h k → Into d f → Into d g → Whole d f g → Whole d h k
carries_whole {d} {σ} {f} {g} {h} {k} c a b w x lx =
    let o = onto d σ c.permutes x lx in
    subst (λ y. length (numbered h k y d) ≡ d) o.2
    (ap length (numbered_map c a b o.0 o.1 d) ∙ length-map (numbered f g o.0 d) σ ∙ w o.0 o.1)

-- a pair whose numberings are kept by a whole pair is whole
whole_kept : (d : ℕ) (f g h k : ℕ → ℕ) → Into d f → Into d g → Into d h → Into d k → Whole d f g
    → ((x : ℕ) → x < d → (y : ℕ) → y < d → In y (numbered h k x d) → In (f y) (numbered h k x d) × In (g y) (numbered h k x d))
    → Whole d h k
whole_kept d f g h k a b a' b' w keeps x lx =
    let start = order_first d h k a' b' x lx in
    let each = whole_all d f g a b x lx {P = λ y. (y < d) × In y (numbered h k x d)} (w x lx) (lx, start)
    (λ y p. (a y p.0, (keeps x lx y p.0 p.1).0)) (λ y p. (b y p.0, (keeps x lx y p.0 p.1).1)) in
    full d h k a' b' x lx (λ y l. (each y l).1)

-- the steps keep a pair whole
module _ (d : ℕ) (f g : ℕ → ℕ) (p : Permutes d f) (q : Permutes d g) (w : Whole d f g) where
  abbrev above : ℕ → ℕ
  above i = g (f i)

  pub sheared_permutes : Permutes d above
  sheared_permutes = joined_permutes d f g p q

  pub sheared_whole : Whole d f above
  sheared_whole = whole_kept d f g f above p.0 q.0 p.0 sheared_permutes.0 w keeps
    where
      keeps : (x : ℕ) → x < d → (y : ℕ) → y < d → In y (numbered f above x d) → In (f y) (numbered f above x d) × In (g y) (numbered f above x d)
      keeps x lx y l h =
          let xs = numbered f above x d in
          let s = order_listed d f above p.0 sheared_permutes.0 x lx d in
          let rights = order_right d f above p.0 sheared_permutes.0 x lx in
          let o = onto d f p y l in
          let before = kept_back d x xs s f p rights o.0 o.1 (subst (λ z. In z xs) (sym o.2) h) in
          (rights y h, subst (λ z. In (g z) xs) o.2 (order_up d f above p.0 sheared_permutes.0 x lx o.0 before))

  pub turned_whole : Whole d g (inverse d f)
  turned_whole = whole_kept d f g g (inverse d f) p.0 q.0 q.0 (inverse_into d f p) w keeps
    where
      keeps : (x : ℕ) → x < d → (y : ℕ) → y < d → In y (numbered g (inverse d f) x d) → In (f y) (numbered g (inverse d f) x d) × In (g y) (numbered g (inverse d f) x d)
      keeps x lx y l h =
          let xs = numbered g (inverse d f) x d in
          let s = order_listed d g (inverse d f) q.0 (inverse_into d f p) x lx d in
          let ups = order_up d g (inverse d f) q.0 (inverse_into d f p) x lx in (
            kept_back d x xs s (inverse d f) (inverse_permutes d f p) ups (f y) (p.0 y l) (subst (λ z. In z xs) (sym (undone d f p y l)) h),
            order_right d g (inverse d f) q.0 (inverse_into d f p) x lx y h,
          )
