-- The test of soundness tells exactly whether links are sound.
use Rattle.std.proofs.Common.{◌≡◌, ℕ, zero, suc, ◌+◌, ◌*◌, ◌/◌, ◌<◌, ◌≤◌, Bool, true, false, ◌&&◌, ◌||◌, eqb, ltb, ◌⊎◌, List, length, Decides, sym, refl, ap, ◌∙◌, subst, inl, inr, arith, below_more, eq-eqb, eqb-true}
use borrow.Author.Tests.{eqb-false}
use Rattle.std.proofs.lemmas.Bool.{and_parts, and_from, cases_lt, cases_order}
use Rattle.std.proofs.lemmas.Bool.Decides.{Decides-and, Decides-or, Decides-ltb, Decides-eqb}
use Rattle.modular.specs.declared.letter.Letter.TheVariants.{T, S}
use Rattle.table.specs.declared.link.Link.{Link}
use Rattle.table.specs.Links.{at, edge, letter_at, aim_at, next}
use Rattle.table.specs.SoundTest.{named, fits, counted, lawful, fair, swept, SoundTells}
use Rattle.table.specs.Soundness.{Sound}
use Rattle.table.specs.laws.Edges.{next_edge}
use Rattle.table.proofs.Codes.{edge_bit, edge_of}
use Rattle.table.proofs.Numbered.{bit_small}
use Rattle.table.proofs.Writes.{parent_named, letter_named}

module _ (links : List Link) where
  abbrev n : ℕ
  n = length links

  -- row r is first reached by the edge that it names, which is below e and belongs to a lower row
  record Named (e r : ℕ) : Type 0 where
    early : named links r < e
    lower : named links r / 2 < r
    by : aim_at links (named links r) ≡ r
    before : (d : ℕ) → d < named links r → aim_at links d < r

  -- the edges below e reach the first c rows, in their order
  record Reach (e c : ℕ) : Type 0 where
    some : 0 < c
    most : c ≤ n
    below : (d : ℕ) → d < e → aim_at links d < c
    names : (r : ℕ) → 0 < r → r < c → Named e r

  -- what the test of an edge tells
  abbrev Fits : ℕ → ℕ → Type 0
  Fits e c = (aim_at links e < n) × ((aim_at links e < c) ⊎ ((aim_at links e ≡ c) × (named links c ≡ e)))

  fits_tells : (e c : ℕ) → Decides (fits links e c) (Fits e c)
  fits_tells e c = Decides-and (ltb (aim_at links e) n) (ltb (aim_at links e) c || (eqb (aim_at links e) c && eqb (named links c) e)) (Decides-ltb (aim_at links e) n)
      (Decides-or (ltb (aim_at links e) c) (eqb (aim_at links e) c && eqb (named links c) e) (Decides-ltb (aim_at links e) c)
      (Decides-and (eqb (aim_at links e) c) (eqb (named links c) e) (Decides-eqb (aim_at links e) c) (Decides-eqb (named links c) e)))

  -- one edge more
  more_named : (e r : ℕ) → Named e r → Named (e + 1) r
  more_named e r a = record { early = omega arith; lower = a.lower; by = a.by; before = a.before }

  old_edge : (e c : ℕ) → Reach e c → aim_at links e < c → Reach (e + 1) c
  old_edge e c a k = record {
    some = a.some;
    most = a.most;
    below = below_more (λ d. aim_at links d < c) e a.below k;
    names = λ r z l. more_named e r (a.names r z l);
  }

  new_edge : (e c : ℕ) → Reach e c → e / 2 < c → c < n → aim_at links e ≡ c → named links c ≡ e → Reach (e + 1) (c + 1)
  new_edge e c a l b q v = record {
    some = omega arith;
    most = omega arith;
    below = below_more (λ d. aim_at links d < c + 1) e (λ d k. omega (arith, a.below d k)) (omega arith);
    names = λ r z k. below_more (λ r. 0 < r → Named (e + 1) r) c (λ r k z. more_named e r (a.names r z k)) (λ z. last) r k z;
  }
    where
      last : Named (e + 1) c
      last = record {
        early = omega arith;
        lower = subst (λ e. e / 2 < c) (sym v) l;
        by = ap (aim_at links) v ∙ q;
        before = λ d k. a.below d (subst (λ e. d < e) v k);
      }

  reach_by : (b : Bool) (e c : ℕ) → eqb (aim_at links e) c ≡ b → Reach e c → e / 2 < c → Fits e c → Reach (e + 1) (elim b [ true ↦ c + 1 | false ↦ c ])
  reach_by true e c q a l (w, inl k) = absurd (omega (arith, eqb-true (aim_at links e) c q))
  reach_by true e c q a l (w, inr (k, v)) = new_edge e c a l (omega arith) k v
  reach_by false e c q a l (w, inl k) = old_edge e c a k
  reach_by false e c q a l (w, inr (k, v)) = absurd (eqb-false (aim_at links e) c q k)

  reach_more : (e c : ℕ) → Reach e c → e / 2 < c → Fits e c → Reach (e + 1) (counted links e c)
  reach_more e c a l w = reach_by (eqb (aim_at links e) c) e c refl a l w

  counted_above : (e c : ℕ) → c ≤ counted links e c
  counted_above e c = above (eqb (aim_at links e) c)
    where
      above : (b : Bool) → c ≤ (elim b [ true ↦ c + 1 | false ↦ c ])
      above true = omega arith
      above false = omega arith

  -- both laws at row r
  abbrev Lawful : ℕ → Type 0
  Lawful r =
      (next links S (next links S (next links S (next links S r))) ≡ r)
      × (next links T (next links S (next links T (next links S (next links T (next links S r))))) ≡ next links S (next links S r))

  lawful_tells : (r : ℕ) → Decides (lawful links r) (Lawful r)
  lawful_tells r = Decides-and (eqb (next links S (next links S (next links S (next links S r)))) r)
      (eqb (next links T (next links S (next links T (next links S (next links T (next links S r)))))) (next links S (next links S r)))
      (Decides-eqb (next links S (next links S (next links S (next links S r)))) r)
      (Decides-eqb (next links T (next links S (next links T (next links S (next links T (next links S r)))))) (next links S (next links S r)))

  abbrev Fair : ℕ → ℕ → Type 0
  Fair r c = ((r < c) × Lawful r) × (Fits (2 * r) c × Fits (2 * r + 1) (counted links (2 * r) c))

  fair_tells : (r c : ℕ) → Decides (fair links r c) (Fair r c)
  fair_tells r c = Decides-and (ltb r c && lawful links r) (fits links (2 * r) c && fits links (2 * r + 1) (counted links (2 * r) c))
      (Decides-and (ltb r c) (lawful links r) (Decides-ltb r c) (lawful_tells r))
      (Decides-and (fits links (2 * r) c) (fits links (2 * r + 1) (counted links (2 * r) c)) (fits_tells (2 * r) c) (fits_tells (2 * r + 1) (counted links (2 * r) c)))

  -- one row more
  abbrev after : ℕ → ℕ → ℕ
  after r c = counted links (2 * r + 1) (counted links (2 * r) c)

  row_more : (r c : ℕ) → Reach (2 * r) c → Fair r c → Reach (2 * (r + 1)) (after r c)
  row_more r c a ((l, w), (u, v)) = subst (λ e. Reach e (after r c)) (omega arith)
      (reach_more (2 * r + 1) (counted links (2 * r) c) (reach_more (2 * r) c a (omega arith) u) (omega (arith, counted_above (2 * r) c)) v)

  -- all that the pass over the rows from r on tells
  abbrev Swept : ℕ → Type 0
  Swept r = Reach (2 * n) n × ((i : ℕ) → r ≤ i → i < n → Lawful i)

  swept_tells : (k r c : ℕ) → r + k ≡ n → Reach (2 * r) c → swept links k r c ≡ true → Swept r
  swept_tells zero r c q a e = (subst (λ i. Reach (2 * i) i) (omega arith) (subst (Reach (2 * r)) (eqb-true c r e) a), λ i l b. absurd (omega arith))
  swept_tells (suc k) r c q a e =
      let p = and_parts (fair links r c) (swept links k (r + 1) (after r c)) e in
      let w = (fair_tells r c).0 p.0 in
      let rest = swept_tells k (r + 1) (after r c) (omega arith) (row_more r c a w) p.1 in (
        rest.0,
        λ i l b. elim (cases_order i r) [
          | inl z ↦ subst Lawful (sym z) w.0.1
          | inr (inl z) ↦ absurd (omega arith)
          | inr (inr z) ↦ rest.1 i (omega arith) b
        ],
      )

  reach_none : 0 < n → Reach 0 1
  reach_none z = record { some = omega arith; most = z; below = λ d l. absurd (omega arith); names = λ r z l. absurd (omega arith) }

  swept_sound : 0 < n → named links 0 ≡ 0 → Swept 0 → Sound links
  swept_sound z root (a, laws) = record {
    some = z;
    below = λ g r l. subst (λ i. i < n) (sym (next_edge links g r l)) (a.below (edge r g) (omega (arith, edge_bit r g, bit_small g)));
    four_s = λ r l. (laws r (omega arith) l).0;
    three_st = λ r l. (laws r (omega arith) l).1;
    root_parent = parent_named links 0 ∙ ap (λ e. e / 2) root;
    root_letter = letter_named links 0 ∙ ap letter_at root;
    from_lower = λ r z l. subst (λ i. i < r) (sym (parent_named links r)) (a.names r z l).lower;
    reached = λ r z l. next_edge links (at links r).letter (at links r).parent (omega (arith, parent_named links r, (a.names r z l).lower)) ∙ (a.names r z l).by;
    first = λ r z l. (a.names r z l).before;
  }

  module _ (v : Sound links) where
    sound_named : (r : ℕ) → 0 < r → r < n → Named (2 * n) r
    sound_named r z l = record {
      early = omega (arith, v.from_lower r z l, edge_bit (at links r).parent (at links r).letter, bit_small (at links r).letter);
      lower = subst (λ i. i < r) (parent_named links r) (v.from_lower r z l);
      by = sym (next_edge links (at links r).letter (at links r).parent (omega (arith, v.from_lower r z l))) ∙ v.reached r z l;
      before = v.first r z l;
    }

    -- the next row is not named by an edge below e
    not_before : (e c : ℕ) → Reach e c → c < n → named links c < e → ⊥
    not_before e c a l k = omega (arith, a.below (named links c) k, (sound_named c a.some l).by)

    sound_aims : (e : ℕ) → e < 2 * n → aim_at links e < n
    sound_aims e l = subst (λ i. i < n) (next_edge links (letter_at e) (e / 2) (omega arith) ∙ ap (aim_at links) (edge_of e)) (v.below (letter_at e) (e / 2) (omega arith))

    sound_row : (e c : ℕ) → e < 2 * n → Reach e c → e / 2 < c
    sound_row e c l a = elim (cases_lt (e / 2) c) [
      | inl k ↦ k
      | inr k ↦ absurd (not_before e c a (omega arith) (omega (arith, (sound_named c a.some (omega arith)).lower)))
    ]

    sound_fits : (e c : ℕ) → e < 2 * n → Reach e c → Fits e c
    sound_fits e c l a = (
      sound_aims e l,
      elim (cases_lt (aim_at links e) c) [
        | inl k ↦ inl k
        | inr k ↦
            let b : c < n = omega (arith, sound_aims e l) in
            elim (cases_order (named links c) e) [
              | inl q ↦ inr (ap (aim_at links) (sym q) ∙ (sound_named c a.some b).by, q)
              | inr (inl q) ↦ absurd (not_before e c a b q)
              | inr (inr q) ↦ absurd (omega (arith, (sound_named c a.some b).before e q))
            ]
      ],
    )

    sound_fair : (r c : ℕ) → r < n → Reach (2 * r) c → Fair r c
    sound_fair r c l a =
        let u = sound_fits (2 * r) c (omega arith) a in
        let k : r < c = omega (arith, sound_row (2 * r) c (omega arith) a) in
        ((k, (v.four_s r l, v.three_st r l)), (u, sound_fits (2 * r + 1) (counted links (2 * r) c) (omega arith) (reach_more (2 * r) c a (omega arith) u)))

    sound_swept : (k r c : ℕ) → r + k ≡ n → Reach (2 * r) c → swept links k r c ≡ true
    sound_swept zero r c q a = eq-eqb c r (elim (cases_lt c n) [
      | inl l ↦ absurd (not_before (2 * r) c a l (omega (arith, (sound_named c a.some l).early)))
      | inr l ↦ omega (arith, a.most)
    ])
    sound_swept (suc k) r c q a =
        let w = sound_fair r c (omega arith) a in
        and_from (fair links r c) (swept links k (r + 1) (after r c)) ((fair_tells r c).1 w) (sound_swept k (r + 1) (after r c) (omega arith) (row_more r c a w))

  -- the test passes exactly where the links are sound
  pub sound_tells : SoundTells links
  sound_tells = (
    λ e.
        let p = and_parts (ltb 0 n && eqb (named links 0) 0) (swept links n 0 1) e in
        let o = (Decides-and (ltb 0 n) (eqb (named links 0) 0) (Decides-ltb 0 n) (Decides-eqb (named links 0) 0)).0 p.0 in
        swept_sound o.0 o.1 (swept_tells n 0 1 (omega arith) (reach_none o.0) p.1),
    λ v. and_from (ltb 0 n && eqb (named links 0) 0) (swept links n 0 1)
        ((Decides-and (ltb 0 n) (eqb (named links 0) 0) (Decides-ltb 0 n) (Decides-eqb (named links 0) 0)).1 (v.some, λ i. edge (v.root_parent i) (v.root_letter i)))
        (sound_swept v n 0 1 (omega arith) (reach_none v.some)),
  )
