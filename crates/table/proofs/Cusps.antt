-- The cusps of sound links are their T-cycles.
use Rattle.std.proofs.Common.{◌≡◌, ℕ, zero, suc, ◌+◌, ◌-◌, ◌*◌, ◌/◌, ◌%◌, ◌<◌, ◌≤◌, min, Bool, true, false, cond, eqb, ltb, List, length, sym, refl, ap, ◌∙◌, subst, mod-lt, div-add-mod', arith, ltb-false, ltb-true, le-ltb, lt-ltb, eq-eqb, ne_eqb, eqb-true}
use native.Mathlib.Decide.{dec_le, dec_lt, ℕ_discrete}
use Rattle.modular.specs.declared.letter.Letter.TheVariants.{T}
use Rattle.table.specs.declared.link.Link.{Link}
use Rattle.table.specs.Links.{next}
use Rattle.table.specs.Shapes.{counted, low_from, is_low, widths, OnCycle, CuspLaw}
use Rattle.table.specs.Soundness.{Sound}
use Rattle.table.specs.Widths.{times, width}
use Rattle.table.proofs.Tallies.{truth, yes_not_no, counted_none, counted_all, counted_parts, counted_numbers}
use Rattle.table.proofs.Cycles.{times_add, times_round, times_row, times_apart, comes_back, width_is}

module _ (links : List Link) (k : Sound links) where
  abbrev t : ℕ → ℕ
  t = next links T

  abbrev N : ℕ
  N = length links

  width_few : (r : ℕ) → r < N → width links r ≤ N
  width_few r h = let j = comes_back links k r h in let l = (width_is links k r h).least j.0 j.1 j.3 in omega arith

  -- m steps are as many as m leaves modulo the width
  around : (m r : ℕ) → r < N → times m t r ≡ times (m % width links r) t r
  around m r h =
      let w = width links r in
      let z : m ≡ m % w + m / w * w = sym (div-add-mod' m w) ∙ omega arith in
      ap (λ n. times n t r) z ∙ times_add t (m % w) (m / w * w) r ∙ ap (times (m % w) t) (times_round t w r (width_is links k r h).returns (m / w))

  -- what a row leads to leads back to it
  turn_back : (m r : ℕ) → r < N → (n : ℕ) × (times n t (times m t r) ≡ r)
  turn_back m r h =
      let w = width links r in
      let i = width_is links k r h in
      let big : m ≤ m * w = more m w i.some in
      let z : (m * w - m) + m ≡ m * w = omega arith in
      (m * w - m, sym (times_add t (m * w - m) m r) ∙ ap (λ n. times n t r) z ∙ times_round t w r i.returns m)
    where
      more : (m w : ℕ) → 0 < w → m ≤ m * w
      more zero w h = omega arith
      more (suc m) w h = let l = more m w h in omega arith

  -- the lowest of the first steps from q
  abbrev lowest : ℕ → ℕ → ℕ
  lowest zero q = q
  lowest (suc m) q = min (times (suc m) t q) (lowest m q)

  lowest_le : (n m q : ℕ) → m ≤ n → lowest n q ≤ times m t q
  lowest_le zero m q h = let z : m ≡ 0 = omega arith in let e = ap (λ n. times n t q) z in omega arith
  lowest_le (suc n) m q h = elim (dec_le m n) [
    | yes l ↦ let i = lowest_le n m q l in omega arith
    | no l ↦ let z : m ≡ suc n = omega arith in let e = ap (λ n. times n t q) z in omega arith
  ]

  lowest_is : (n q : ℕ) → (m : ℕ) × (times m t q ≡ lowest n q)
  lowest_is zero q = (0, refl)
  lowest_is (suc n) q = let i = lowest_is n q in elim (dec_le (times (suc n) t q) (lowest n q)) [
    | yes l ↦ (suc n, omega arith)
    | no l ↦ (i.0, omega arith)
  ]

  -- the lowest row of the cycle of q
  abbrev root : ℕ → ℕ
  root q = lowest N q

  root_le : (m q : ℕ) → q < N → root q ≤ times m t q
  root_le m q h =
      let w = width_few q h in
      let s = mod-lt m (width_is links k q h).some in
      let l = lowest_le N (m % width links q) q (omega arith) in
      let e = around m q h in
      omega arith

  root_row : (q : ℕ) → q < N → root q < N
  root_row q h = let i = lowest_is N q in subst (λ r. r < N) i.1 (times_row links k i.0 q h)

  -- the test of a low row, step by step
  low_no_lower : (n from r : ℕ) → r < N → 0 < from → from ≤ width links r → width links r ≤ from + n → low_from links n (times from t r) r ≡ true →
      (m : ℕ) → from ≤ m → m < width links r → r ≤ times m t r
  low_no_lower zero from r h a b c e m x y = absurd (omega arith)
  low_no_lower (suc n) from r h a b c e m x y = elim (ℕ_discrete (times from t r) r) [
    | yes p ↦ let l = (width_is links k r h).least from a p in absurd (omega arith)
    | no p ↦
        let q = times from t r in
        let e1 = sym (ap (λ z. cond z true (cond (ltb q r) false (low_from links n (t q) r))) (ne_eqb q r p)) ∙ e in
        elim (dec_lt q r) [
          | yes l ↦ absurd (yes_not_no (low_from links (suc n) q r) e (ap (λ z. cond z true (cond (ltb q r) false (low_from links n (t q) r))) (ne_eqb q r p) ∙ ap (λ z. cond z false (low_from links n (t q) r)) (lt-ltb q r l)))
          | no l ↦ elim (ℕ_discrete from m) [
            | yes z ↦ let f = ap (λ n. times n t r) z in omega arith
            | no z ↦
                let e2 = sym (ap (λ z. cond z false (low_from links n (t q) r)) (le-ltb q r (omega arith))) ∙ e1 in
                low_no_lower n (suc from) r h (omega arith) (omega arith) (omega arith) e2 m (omega arith) y
          ]
        ]
  ]

  no_lower_low : (n from r : ℕ) → ((m : ℕ) → r ≤ times m t r) → low_from links n (times from t r) r ≡ true
  no_lower_low zero from r h = refl
  no_lower_low (suc n) from r h = elim (ℕ_discrete (times from t r) r) [
    | yes p ↦ ap (λ z. cond z true (cond (ltb (times from t r) r) false (low_from links n (t (times from t r)) r))) (eq-eqb (times from t r) r p)
    | no p ↦
        ap (λ z. cond z true (cond (ltb (times from t r) r) false (low_from links n (t (times from t r)) r))) (ne_eqb (times from t r) r p)
        ∙ ap (λ z. cond z false (low_from links n (t (times from t r)) r)) (le-ltb (times from t r) r (h from))
        ∙ no_lower_low n (suc from) r h
  ]

  -- a low row is the lowest of its cycle
  low_le : (r : ℕ) → r < N → is_low links r ≡ true → (m : ℕ) → r ≤ times m t r
  low_le r h e m =
      let w = width_is links k r h in
      let s = mod-lt m w.some in
      let few = width_few r h in
      let a = around m r h in
      elim (dec_lt 0 (m % width links r)) [
        | yes l ↦ let i = low_no_lower N 1 r h (omega arith) w.some (omega arith) e (m % width links r) l s in omega arith
        | no l ↦ let z : m % width links r ≡ 0 = omega arith in let f = ap (λ n. times n t r) z in omega arith
      ]

  root_low : (q : ℕ) → q < N → is_low links (root q) ≡ true
  root_low q h =
      let i = lowest_is N q in
      no_lower_low N 1 (root q) (λ m. let l = root_le (m + i.0) q h in let e = times_add t m i.0 q ∙ ap (times m t) i.1 in omega arith)

  root_on : (q : ℕ) → q < N → OnCycle links (root q) q
  root_on q h = let i = lowest_is N q in let b = turn_back i.0 q h in (b.0, ap (times b.0 t) (sym i.1) ∙ b.1)

  -- two low rows with a row on both cycles are one
  one_low : (q r p : ℕ) → r < N → p < N → is_low links r ≡ true → is_low links p ≡ true → OnCycle links r q → OnCycle links p q → r ≡ p
  one_low q r p h l e f (m, x) (n, y) =
      let b = turn_back n p l in
      let c = turn_back m r h in
      let u = low_le r h e (b.0 + m) in
      let v = low_le p l f (c.0 + n) in
      let i = times_add t b.0 m r ∙ ap (times b.0 t) (x ∙ sym y) ∙ b.1 in
      let j = times_add t c.0 n p ∙ ap (times c.0 t) (y ∙ sym x) ∙ c.1 in
      omega arith

  -- the rows of the cycle of a low row, by the steps that lead to them
  cycle_count : (r : ℕ) → r < N → is_low links r ≡ true → counted (λ q. eqb (root q) r) N ≡ width links r
  cycle_count r h e =
      let w = width_is links k r h in
      counted_numbers (λ q. eqb (root q) r) N (λ m. times m t r) (width links r) (record {
        below = λ m l. times_row links k m r h;
        passes = λ m l. let q = times m t r in let lq = times_row links k m r h in
            eq-eqb (root q) r (one_low q (root q) r (root_row q lq) h (root_low q lq) e (root_on q lq) (m, refl));
        apart = λ i j a b x. elim (dec_lt i j) [
          | yes y ↦ absurd (never r h i j y b x)
          | no y ↦ elim (dec_lt j i) [ yes z ↦ absurd (never r h j i z a (sym x)) | no z ↦ omega arith ]
        ];
        onto = λ q lq x.
            let o = subst (λ p. OnCycle links p q) (eqb-true (root q) r x) (root_on q lq) in
            (o.0 % width links r, mod-lt o.0 w.some, sym (around o.0 r h) ∙ o.1);
      })
    where
      never : (r : ℕ) → r < N → (i j : ℕ) → i < j → j < width links r → times i t r ≡ times j t r → ⊥
      never r h i j l m x =
          let z : i + (j - i) ≡ j = omega arith in
          let e = times_apart links k i r (times (j - i) t r) h (times_row links k (j - i) r h) (x ∙ sym (ap (λ n. times n t r) z) ∙ times_add t i (j - i) r) in
          let f = (width_is links k r h).least (j - i) (omega arith) (sym e) in
          omega arith

  no_cycle : (r : ℕ) → is_low links r ≡ false → counted (λ q. eqb (root q) r) N ≡ 0
  no_cycle r e = counted_none (λ q. eqb (root q) r) N (λ q l. truth (eqb (root q) r) (λ x. yes_not_no (is_low links r) (sym (ap (is_low links) (eqb-true (root q) r x)) ∙ root_low q l) e))

  -- the widths so far are as many as the rows whose lowest is below n
  widths_are : (n : ℕ) → n ≤ N → widths links n ≡ counted (λ q. ltb (root q) n) N
  widths_are zero h = sym (counted_none (λ q. ltb (root q) 0) N (λ q l. le-ltb (root q) 0 (omega arith)))
  widths_are (suc n) h = by (is_low links n) refl (widths_are n (omega arith)) split
    where
      split : counted (λ q. ltb (root q) (suc n)) N ≡ counted (λ q. ltb (root q) n) N + counted (λ q. eqb (root q) n) N
      split = counted_parts (λ q. ltb (root q) (suc n)) (λ q. ltb (root q) n) (λ q. eqb (root q) n) N (record {
        first = λ q l e. let a = ltb-true (root q) n e in (lt-ltb (root q) (suc n) (omega arith), ne_eqb (root q) n (λ x. omega arith));
        second = λ q l e. let a = eqb-true (root q) n e in lt-ltb (root q) (suc n) (omega arith);
        neither = λ q l a b. let x = ltb-false (root q) n a in le-ltb (root q) (suc n) (elim (ℕ_discrete (root q) n) [ yes y ↦ absurd (yes_not_no (eqb (root q) n) (eq-eqb (root q) n y) b) | no y ↦ omega arith ]);
      })

      by : (b : Bool) → is_low links n ≡ b → widths links n ≡ counted (λ q. ltb (root q) n) N → counted (λ q. ltb (root q) (suc n)) N ≡ counted (λ q. ltb (root q) n) N + counted (λ q. eqb (root q) n) N →
          widths links (suc n) ≡ counted (λ q. ltb (root q) (suc n)) N
      by true e i s = let x = ap (λ b. cond b (widths links n + width links n) (widths links n)) e in let y = cycle_count n (omega arith) e in omega arith
      by false e i s = let x = ap (λ b. cond b (widths links n + width links n) (widths links n)) e in let y = no_cycle n e in omega arith

  pub cusp_law : CuspLaw links
  cusp_law = record {
    low = λ r h. (λ e q o. subst (λ p. r ≤ p) o.1 (low_le r h e o.0), λ f. no_lower_low N 1 r (λ m. f (times m t r) (m, refl)));
    in_one = λ q h. (root q, root_row q h, root_low q h, root_on q h);
    in_no_other = one_low;
    add_up = widths_are N (omega arith) ∙ counted_all (λ q. ltb (root q) N) N (λ q l. lt-ltb (root q) N (root_row q l));
  }
