-- Sound links of n rows have n + 1 generators.
use Rattle.std.proofs.Common.{◌≡◌, ℕ, zero, suc, ◌+◌, ◌*◌, ◌<◌, ◌≤◌, Bool, true, false, cond, List, [], ◌∷◌, ◌++◌, length, sym, refl, ap, ◌∙◌, subst, arith, length-append, ltb-true, lt-ltb, eq-eqb, eqb-true}
use native.Mathlib.Decide.{dec_lt}
use lib.ListN.{length-map}
use Rattle.std.proofs.lemmas.Bool.{and_parts, and_from}
use Rattle.table.specs.declared.link.Link.{Link}
use Rattle.table.specs.Generators.{is_tree, generator_at, other_below, other_edges, generators}
use Rattle.table.specs.Links.{at, aim_at, edge}
use Rattle.table.specs.Soundness.{Sound}
use Rattle.table.specs.laws.Edges.{aim_edge, next_at_row}
use Rattle.table.proofs.SoundRows.{born, born_aims, born_rise, edge_is, edge_of}
use Rattle.table.proofs.Numbered.{bit_small}

module _ (links : List Link) (k : Sound links) where
  -- of the edges below n, those but m are no tree edges, and the rows 1 to m are the ones that these reached first
  record Told (n m : ℕ) : Type 0 where
    few : m < length links
    count : length (other_below links n) + m ≡ n
    born_below : (r : ℕ) → 0 < r → r < length links → r ≤ m → born links k r < n
    below_born : (r : ℕ) → 0 < r → r < length links → born links k r < n → r ≤ m

  -- the edge by which a row was first reached is a tree edge
  born_tree : (r : ℕ) → 0 < r → r < length links → is_tree links (born links k r) ≡ true
  born_tree r h l =
      let a = born_aims links k r h l in
      and_from _ _ (lt-ltb 0 _ (subst (λ q. 0 < q) (sym a) h)) (eq-eqb _ _ (ap (λ q. edge (at links q).parent (at links q).letter) a))

  -- a tree edge reached the row that it leads to
  tree_born : (n : ℕ) → is_tree links n ≡ true → (0 < aim_at links n) × (born links k (aim_at links n) ≡ n)
  tree_born n t = let p = and_parts _ _ t in (ltb-true 0 _ p.0, eqb-true _ _ p.1)

  dropped : (t : Bool) (xs : List ℕ) (n : ℕ) → t ≡ true → length (cond t xs (xs ++ n ∷ [])) ≡ length xs
  dropped t xs n e = ap (λ b. length (cond b xs (xs ++ n ∷ []))) e

  added : (t : Bool) (xs : List ℕ) (n : ℕ) → t ≡ false → length (cond t xs (xs ++ n ∷ [])) ≡ length xs + 1
  added t xs n e = ap (λ b. length (cond b xs (xs ++ n ∷ []))) e ∙ length-append xs (n ∷ [])

  -- an edge below 2n aims at a row
  aim_row : (n : ℕ) → n < 2 * length links → aim_at links n < length links
  aim_row n h =
      let f = edge_of (length links) n h in
      subst (λ q. q < length links) (next_at_row links f.1 f.0 f.2 ∙ sym (aim_edge links f.0 f.1) ∙ ap (aim_at links) f.3) (k.below f.1 f.0 f.2)

  one_more : (n m : ℕ) (t : Bool) → is_tree links n ≡ t → n < 2 * length links → Told n m → (q : ℕ) × Told (suc n) q
  one_more n m true e h d =
      let q = aim_at links n in
      let t = tree_born n e in
      let low = aim_row n h in
      let high : m < q = elim (dec_lt m q) [ yes x ↦ x | no x ↦ let y = d.born_below q t.0 low (omega arith) in absurd (omega (arith, t.1)) ] in
      let near : q ≤ m + 1 = elim (dec_lt (m + 1) q) [ yes x ↦ let y = born_rise links k (m + 1) q (omega arith) x low in let z = d.below_born (m + 1) (omega arith) (omega arith) (omega (arith, t.1)) in absurd (omega arith) | no x ↦ omega arith ] in (
        m + 1,
        record {
          few = omega arith;
          count = let a = dropped (is_tree links n) (other_below links n) n e in omega (arith, d.count);
          born_below = λ r a b c. elim (dec_lt m r) [
            | yes x ↦ let y : r ≡ q = omega arith in let z = ap (born links k) y in omega (arith, t.1)
            | no x ↦ let y = d.born_below r a b (omega arith) in omega arith
          ];
          below_born = λ r a b c. elim (dec_lt (born links k r) n) [
            | yes x ↦ let y = d.below_born r a b x in omega arith
            | no x ↦ let y : born links k r ≡ n = omega arith in let z = sym (born_aims links k r a b) ∙ ap (aim_at links) y in omega arith
          ];
        },
      )
  one_more n m false e h d = (
    m,
    record {
      few = d.few;
      count = let a = added (is_tree links n) (other_below links n) n e in omega (arith, d.count);
      born_below = λ r a b c. let x = d.born_below r a b c in omega arith;
      below_born = λ r a b c. elim (dec_lt (born links k r) n) [
        | yes x ↦ d.below_born r a b x
        | no x ↦ let y : born links k r ≡ n = omega arith in let z : ◌≡◌ {A = Bool} true false = sym (born_tree r a b) ∙ ap (is_tree links) y ∙ e in let w : ◌≡◌ {A = ℕ} 0 1 = cc in absurd (omega arith)
      ];
    },
  )

  -- all edges together
  told : (n : ℕ) → n ≤ 2 * length links → (m : ℕ) × Told n m
  told zero h = (
    0,
    record {
      few = k.some;
      count = omega arith;
      born_below = λ r a b c. absurd (omega arith);
      below_born = λ r a b c. absurd (omega arith);
    },
  )
  told (suc n) h = let d = told n (omega arith) in one_more n d.0 (is_tree links n) refl (omega arith) d.1

  -- the edge by which a row was first reached is one of the table's
  born_edge : (r : ℕ) → 0 < r → r < length links → born links k r < 2 * length links
  born_edge r h l = let p = k.from_lower r h l in let e = edge_is (at links r).parent (at links r).letter in omega (arith, bit_small (at links r).letter)

  -- there is one generator more than rows
  pub generators_count : length (generators links) ≡ length links + 1
  generators_count =
      let d = told (2 * length links) (omega arith) in
      let last : d.0 + 1 ≡ length links = elim (dec_lt (d.0 + 1) (length links)) [
        | yes x ↦ let y = d.1.below_born (d.0 + 1) (omega arith) x (born_edge (d.0 + 1) (omega arith) x) in absurd (omega arith)
        | no x ↦ omega (arith, d.1.few)
      ] in
      length-map (other_edges links) (generator_at links) ∙ omega (arith, d.1.count)
