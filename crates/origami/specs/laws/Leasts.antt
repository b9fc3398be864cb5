-- Two gluings have one least form exactly when a renumbering turns one into the other.
use Rattle.std.specs.Prelude.{◌≡◌, ℕ, zero, suc, pred, ◌<◌, ◌≤◌, true, false, ◌↔◌, List, map, length, get_or, take, drop, slice_index_or, refl}
use Rattle.std.proofs.Common.{sym, ◌∙◌, ap, subst, inl, inr, arith}
use Rattle.std.proofs.lemmas.List.{length-append, take_at, drop_at}
use Rattle.std.proofs.lemmas.Bool.{cases_eq, cond_both}
use Rattle.origami.specs.declared.gluing.Gluing.{Gluing}
use Rattle.origami.specs.Forms.{order, reading, entries, earlier, better, smallest, least, IsLeast}
use Rattle.origami.specs.Gluings.{right_of, up_of, Glues, Renumbered, padded}
use Rattle.origami.specs.Squares.{Into, Permutes, inverse, Carries, place, numbered, renumbered}
use Rattle.origami.specs.laws.Numberings.{listed_full, order_listed}
use Rattle.origami.specs.laws.Orders.{not_less_self, not_less_than, not_less_both}
use Rattle.origami.specs.laws.Padded.{padded_length, padded_at, padded_cong}
use Rattle.origami.specs.laws.Places.{at_place, get_d_map, place_map}
use Rattle.origami.specs.laws.Renumberings.{carries_join, carries_back, carries_permutes_right, carries_permutes_up, numbered_map}
use Rattle.origami.specs.laws.Wholes.{Whole, reached_whole, whole_reached, carries_whole}

-- gluings

pub glued_whole : (g : Gluing) → Glues g → Whole g.degree (right_of g) (up_of g)
glued_whole g h = reached_whole g.degree (right_of g) (up_of g) h.rights h.ups h.some h.reached

pub whole_glues : (g : Gluing) → 0 < g.degree → g.degree ≤ 16 → Permutes g.degree (right_of g) → Permutes g.degree (up_of g)
    → Whole g.degree (right_of g) (up_of g) → Glues g
whole_glues g z l p q w = record {
  some = z;
  few = l;
  rights = p;
  ups = q;
  reached = whole_reached g.degree (right_of g) (up_of g) p.0 q.0 z (w 0 z);
}

-- a gluing is what carries a whole pair of permutations
pub carried_glues : (g : Gluing) (f k : ℕ → ℕ) {σ : ℕ → ℕ} → 0 < g.degree → g.degree ≤ 16
    → Permutes g.degree f → Permutes g.degree k → Whole g.degree f k → Carries g.degree σ f k (right_of g) (up_of g) → Glues g
carried_glues g f k z l p q w c = whole_glues g z l (carries_permutes_right c p) (carries_permutes_up c q) (carries_whole c p.0 q.0 w)

pub renumbered_join : (g k m : Gluing) → Renumbered g k → Renumbered k m → Renumbered g m
renumbered_join g k m r s =
    let c = subst (λ d. Carries d s.1 (right_of k) (up_of k) (right_of m) (up_of m)) (sym r.0) s.2 in
    (r.0 ∙ s.0, (λ i. s.1 (r.1 i)), carries_join r.2 c)

pub renumbered_back : (g k : Gluing) → Glues g → Renumbered g k → Renumbered k g
renumbered_back g k h r =
    let τ = inverse g.degree r.1 in
    let c = carries_back r.2 h.rights.0 h.ups.0 in
    (sym r.0, τ, subst (λ d. Carries d τ (right_of k) (up_of k) (right_of g) (up_of g)) r.0 c)

-- readings

pub reading_degree : (g : Gluing) (x : ℕ) → (reading g x).degree ≡ g.degree
unfolding reading
reading_degree g x = refl

reading_size : (g : Gluing) (x : ℕ) → (length (reading g x).right ≡ 16) × (length (reading g x).up ≡ 16)
unfolding reading
reading_size g x = (padded_length _ _, padded_length _ _)

-- the reading from a square is the gluing, renumbered
reading_carries : (g : Gluing) → Glues g → (x : ℕ) → x < g.degree
    → Carries g.degree (λ y. place y (order g x)) (right_of g) (up_of g) (right_of (reading g x)) (up_of (reading g x))
unfolding reading
reading_carries g h x lx = record {
  permutes = (below, λ i j k l e. sym (at_place i xs x (has i k)) ∙ ap (λ p. get_or xs p x) e ∙ at_place j xs x (has j l));
  rights = λ i l. sym (padded_at d (renumbered (right_of g) x xs) h.few (place i xs) (below i l) ∙ ap (λ y. place (right_of g y) xs) (at_place i xs x (has i l)));
  ups = λ i l. sym (padded_at d (renumbered (up_of g) x xs) h.few (place i xs) (below i l) ∙ ap (λ y. place (up_of g y) xs) (at_place i xs x (has i l)));
}
  where
    d : ℕ
    d = g.degree

    xs : List ℕ
    xs = order g x

    long : length xs ≡ d
    long = glued_whole g h x lx

    has : (y : ℕ) → y < d → place y xs < length xs
    has = listed_full d x xs (order_listed d (right_of g) (up_of g) h.rights.0 h.ups.0 x lx d) long

    below : Into d (λ y. place y xs)
    below y l = omega (arith, has y l, long)

pub reading_renumbered : (g : Gluing) → Glues g → (x : ℕ) → x < g.degree → Renumbered g (reading g x)
reading_renumbered g h x lx = (sym (reading_degree g x), _, reading_carries g h x lx)

pub reading_glues : (g : Gluing) → Glues g → (x : ℕ) → x < g.degree → Glues (reading g x)
unfolding reading
reading_glues g h x lx = carried_glues (reading g x) (right_of g) (up_of g) h.some h.few h.rights h.ups (glued_whole g h) (reading_carries g h x lx)

-- a renumbering has the same readings
reading_carried : (g k : Gluing) → Glues g → (e : g.degree ≡ k.degree) {σ : ℕ → ℕ} → Carries g.degree σ (right_of g) (up_of g) (right_of k) (up_of k)
    → (x : ℕ) → x < g.degree → reading k (σ x) ≡ reading g x
unfolding reading
reading_carried g k h e {σ} c x lx = λ i. record {
  degree = sym e i;
  right = (ap (λ n. padded n (renumbered (right_of k) (σ x) (numbered (right_of k) (up_of k) (σ x) n))) (sym e)
      ∙ padded_cong d _ _ (same (right_of g) (right_of k) h.rights.0 c.rights)) i;
  up = (ap (λ n. padded n (renumbered (up_of k) (σ x) (numbered (right_of k) (up_of k) (σ x) n))) (sym e)
      ∙ padded_cong d _ _ (same (up_of g) (up_of k) h.ups.0 c.ups)) i;
}
  where
    d : ℕ
    d = g.degree

    xs : List ℕ
    xs = order g x

    same : (f m : ℕ → ℕ) → Into d f → ((i : ℕ) → i < d → σ (f i) ≡ m (σ i)) → (j : ℕ) → j < d
        → renumbered m (σ x) (numbered (right_of k) (up_of k) (σ x) d) j ≡ renumbered f x xs j
    same f m a q j l =
        let s = order_listed d (right_of g) (up_of g) h.rights.0 h.ups.0 x lx d in
        let y = get_or xs j x in
        ap (λ zs. place (m (slice_index_or zs j (σ x))) zs) (numbered_map c h.rights.0 h.ups.0 x lx d)
        ∙ ap (λ z. place (m z) (map σ xs)) (get_d_map σ xs j x)
        ∙ ap (λ z. place z (map σ xs)) (sym (q y (s.all j)))
        ∙ place_map d σ c.permutes.1 (f y) x xs (a y (s.all j)) s.all

-- the least form

not_earlier_self : (g : Gluing) → earlier g g ≡ false
unfolding earlier
not_earlier_self g = not_less_self (entries g)

not_earlier_than : (k m b : Gluing) → earlier m b ≡ true → earlier k b ≡ false → earlier k m ≡ false
unfolding earlier
not_earlier_than k m b = not_less_than (entries k) (entries m) (entries b)

still : (k m b : Gluing) → earlier k b ≡ false → earlier k (better m b) ≡ false
still k m b e = cond_both (earlier m b) m b (λ r. earlier k r ≡ false) (λ t. not_earlier_than k m b t e) (λ _. e)

tried : (m b : Gluing) → earlier m (better m b) ≡ false
tried m b = cond_both (earlier m b) m b (λ r. earlier m r ≡ false) (λ _. not_earlier_self m) (λ t. t)

smallest_reading : (g : Gluing) (n : ℕ) → (x : ℕ) × (x ≤ n) × (smallest g n ≡ reading g x)
smallest_reading g zero = (0, omega arith, refl)
smallest_reading g (suc n) = cond_both (earlier (reading g (suc n)) (smallest g n)) (reading g (suc n)) (smallest g n)
    (λ r. (x : ℕ) × (x ≤ suc n) × (r ≡ reading g x)) (λ _. (suc n, omega arith, refl))
    (λ _. let s = smallest_reading g n in (s.0, omega (arith, s.1), s.2))

smallest_first : (g : Gluing) (n x : ℕ) → x ≤ n → earlier (reading g x) (smallest g n) ≡ false
smallest_first g zero x l = let e : x ≡ 0 = omega arith in rw e (not_earlier_self (reading g 0))
smallest_first g (suc n) x l = elim (cases_eq x (suc n)) [
  | inl e ↦ rw e (tried (reading g (suc n)) (smallest g n))
  | inr e ↦ still (reading g x) (reading g (suc n)) (smallest g n) (smallest_first g n x (omega arith))
]

pub least_is : (g : Gluing) → 0 < g.degree → IsLeast g (least g)
unfolding least
least_is g z = record {
  is_reading = let s = smallest_reading g (pred g.degree) in (s.0, omega (arith, s.1), s.2);
  none_earlier = λ x l. smallest_first g (pred g.degree) x (omega arith);
}

-- two readings of which none is earlier are one
same_readings : (g k : Gluing) (x y : ℕ) → g.degree ≡ k.degree
    → earlier (reading g x) (reading k y) ≡ false → earlier (reading k y) (reading g x) ≡ false → reading g x ≡ reading k y
unfolding earlier
same_readings g k x y e l m =
    let a = reading g x in
    let b = reading k y in
    let s = reading_size g x in
    let t = reading_size k y in
    let both = not_less_both (entries a) (entries b) (omega (arith, length-append a.right a.up, length-append b.right b.up, s.0, s.1, t.0, t.1)) l m in
    let rights : a.right ≡ b.right = sym (take_at a.right a.up 16 s.0) ∙ ap (take 16) both ∙ take_at b.right b.up 16 t.0 in
    let ups : a.up ≡ b.up = sym (drop_at a.right a.up 16 s.0) ∙ ap (drop 16) both ∙ drop_at b.right b.up 16 t.0 in
    λ i. record { degree = (reading_degree g x ∙ e ∙ sym (reading_degree k y)) i; right = rights i; up = ups i }

-- no reading of g is earlier than the least form of a renumbering of g
not_before : (g k : Gluing) → Glues g → 0 < k.degree → Renumbered g k → (x : ℕ) → x < g.degree → earlier (reading g x) (least k) ≡ false
not_before g k h z r x lx =
    subst (λ m. earlier m (least k) ≡ false) (reading_carried g k h r.0 r.2 x lx)
    ((least_is k z).none_earlier (r.1 x) (omega (arith, r.2.permutes.0 x lx, r.0)))

pub renumbered_least : (g k : Gluing) → Glues g → Glues k → Renumbered g k → least g ≡ least k
renumbered_least g k h j r =
    let p = (least_is g h.some).is_reading in
    let q = (least_is k j.some).is_reading in
    let one : earlier (reading g p.0) (reading k q.0) ≡ false = subst (λ m. earlier (reading g p.0) m ≡ false) q.2 (not_before g k h j.some r p.0 p.1) in
    let two : earlier (reading k q.0) (reading g p.0) ≡ false = subst (λ m. earlier (reading k q.0) m ≡ false) p.2
    (not_before k g j h.some (renumbered_back g k h r) q.0 q.1) in
    p.2 ∙ same_readings g k p.0 q.0 r.0 one two ∙ sym q.2

-- the least form is the gluing, renumbered

pub least_renumbered : (g : Gluing) → Glues g → Renumbered g (least g)
least_renumbered g h = let p = (least_is g h.some).is_reading in subst (Renumbered g) (sym p.2) (reading_renumbered g h p.0 p.1)

pub least_glues : (g : Gluing) → Glues g → Glues (least g)
least_glues g h = let p = (least_is g h.some).is_reading in subst Glues (sym p.2) (reading_glues g h p.0 p.1)

pub least_own : (g : Gluing) → Glues g → least (least g) ≡ least g
least_own g h = sym (renumbered_least g (least g) h (least_glues g h) (least_renumbered g h))

pub one_form : (g k : Gluing) → Glues g → Glues k → (least g ≡ least k) ↔ Renumbered g k
one_form g k h j = (
  λ e. renumbered_join g (least g) k (least_renumbered g h)
      (renumbered_back k (least g) j (subst (Renumbered k) (sym e) (least_renumbered k j))),
  renumbered_least g k h j,
)
