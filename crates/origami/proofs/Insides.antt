-- Records whose neighbours are squares: what the test says, and that the steps keep them.
use Rattle.std.proofs.Common.{◌≡◌, ℕ, zero, suc, ◌<◌, ◌≤◌, Bool, true, false, ◌&&◌, eqb, ltb, leb, sym, subst, inl, inr, arith}
use Rattle.std.proofs.lemmas.Bool.{and_from, and_left, and_right, and_parts, cases_eq, ltb-true, leb-true, cond_both, lt-ltb, le-ltb, le-leb, lt-leb}
use Rattle.origami.specs.declared.gluing.Gluing.{Gluing}
use Rattle.origami.specs.Gluings.{right_of, up_of, Inside, sheared, turned}
use Rattle.origami.specs.Origamis.{inside, inside_below}
use Rattle.origami.specs.Squares.{inverse}
use Rattle.origami.specs.laws.Padded.{padded_at}

-- both neighbours of n are squares
abbrev pub met : Gluing → ℕ → Bool
met g n = ltb (right_of g n) g.degree && ltb (up_of g n) g.degree

all_met : (g : Gluing) (n : ℕ) → inside_below g n ≡ true → (k : ℕ) → k < n → met g k ≡ true
all_met g zero e k l = absurd (omega arith)
all_met g (suc n) e k l = let p = and_parts (inside_below g n) (met g n) e in elim (cases_eq k n) [
  | inl q ↦ rw q p.1
  | inr q ↦ all_met g n p.0 k (omega arith)
]

one_unmet : (g : Gluing) (n k : ℕ) → k < n → met g k ≡ false → inside_below g n ≡ false
one_unmet g zero k l e = absurd (omega arith)
one_unmet g (suc n) k l e = elim (cases_eq k n) [
  | inl q ↦ and_right (inside_below g n) (met g n) (subst (λ j. met g j ≡ false) q e)
  | inr q ↦ and_left (inside_below g n) (met g n) (one_unmet g n k (omega arith) e)
]

pub inside_facts : (g : Gluing) → inside g ≡ true → Inside g
unfolding inside
inside_facts g e =
    let p = and_parts (ltb 0 g.degree) (leb g.degree 16 && inside_below g g.degree) e in
    let q = and_parts (leb g.degree 16) (inside_below g g.degree) p.1 in
    let m = all_met g g.degree q.1 in
    let both = λ (k : ℕ) (l : k < g.degree). and_parts (ltb (right_of g k) g.degree) (ltb (up_of g k) g.degree) (m k l) in
    record {
      some = ltb-true 0 g.degree p.0;
      few = leb-true g.degree 16 q.0;
      rights = λ k l. ltb-true (right_of g k) g.degree (both k l).0;
      ups = λ k l. ltb-true (up_of g k) g.degree (both k l).1;
    }

module _ (g : Gluing) where
  pub none_inside : g.degree ≡ 0 → false ≡ inside g
  unfolding inside
  none_inside e = sym (and_left (ltb 0 g.degree) (leb g.degree 16 && inside_below g g.degree) (le-ltb 0 g.degree (omega arith)))

  pub many_inside : 16 < g.degree → false ≡ inside g
  unfolding inside
  many_inside l = sym (and_right (ltb 0 g.degree) (leb g.degree 16 && inside_below g g.degree)
      (and_left (leb g.degree 16) (inside_below g g.degree) (lt-leb g.degree 16 l)))

  pub unmet_inside : (k : ℕ) → k < g.degree → met g k ≡ false → false ≡ inside g
  unfolding inside
  unmet_inside k l e = sym (and_right (ltb 0 g.degree) (leb g.degree 16 && inside_below g g.degree)
      (and_right (leb g.degree 16) (inside_below g g.degree) (one_unmet g g.degree k l e)))

  pub met_inside : 0 < g.degree → g.degree ≤ 16 → inside_below g g.degree ≡ true → true ≡ inside g
  unfolding inside
  met_inside z l e = sym (and_from (ltb 0 g.degree) (leb g.degree 16 && inside_below g g.degree) (lt-ltb 0 g.degree z)
      (and_from (leb g.degree 16) (inside_below g g.degree) (le-leb g.degree 16 l) e))

-- the steps keep a record inside

inverse_small : (n : ℕ) (f : ℕ → ℕ) (j : ℕ) → inverse n f j ≤ n
inverse_small zero f j = omega arith
inverse_small (suc n) f j = cond_both (eqb (f n) j) n (inverse n f j) (λ i. i ≤ suc n) (λ _. omega arith) (λ _. omega (arith, inverse_small n f j))

inverse_below : (d : ℕ) → 0 < d → (f : ℕ → ℕ) (j : ℕ) → inverse d f j < d
inverse_below zero z f j = absurd (omega arith)
inverse_below (suc n) z f j = cond_both (eqb (f n) j) n (inverse n f j) (λ i. i < suc n) (λ _. omega arith) (λ _. omega (arith, inverse_small n f j))

pub sheared_inside : (g : Gluing) → Inside g → Inside (sheared g)
sheared_inside g h = record {
  some = h.some;
  few = h.few;
  rights = h.rights;
  ups = λ i l. subst (λ y. y < g.degree) (sym (padded_at g.degree (λ i. up_of g (right_of g i)) h.few i l)) (h.ups (right_of g i) (h.rights i l));
}

pub turned_inside : (g : Gluing) → Inside g → Inside (turned g)
turned_inside g h = record {
  some = h.some;
  few = h.few;
  rights = h.ups;
  ups = λ i l. subst (λ y. y < g.degree) (sym (padded_at g.degree (inverse g.degree (right_of g)) h.few i l)) (inverse_below g.degree h.some (right_of g) i);
}
