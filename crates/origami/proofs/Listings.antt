-- How a list is tested for being a permutation.
use Rattle.std.proofs.Common.{◌≡◌, ℕ, ◌+◌, ◌-◌, ◌<◌, ◌≤◌, Bool, true, false, List, length, get_or, set, sym, refl, ap, ◌∙◌, subst, inl, inr, arith}
use Rattle.std.proofs.lemmas.List.{length-set, get_or-set_same, get_or-set_other}
use Rattle.std.proofs.lemmas.Bool.{cases_eq, both_ways}
use Rattle.origami.specs.Forms.{order}
use Rattle.origami.specs.Gluings.{right_of, up_of, Glues, Inside}
use Rattle.origami.specs.Listings.{target, FitDegree, Lists, listed, AllReached}
use Rattle.origami.specs.Squares.{Permutes, Carries}
use Rattle.origami.specs.laws.Leasts.{glued_whole}
use Rattle.origami.specs.laws.Padded.{padded_at}
use Rattle.origami.specs.laws.Renumberings.{carries_same, carries_permutes_right, carries_permutes_up}
use Rattle.origami.specs.laws.Wholes.{whole_reached}

target_is : (xs : List ℕ) (i : ℕ) → target xs i ≡ get_or xs i 0 - 1
target_is xs i = refl

-- the first i entries of xs are squares, differ, and are the ones that are seen
pub record Seen (d i : ℕ) (xs : List ℕ) (seen : List Bool) : Type 0 where
  pub long : length seen ≡ 16
  pub within : (k : ℕ) → k < i → (1 ≤ get_or xs k 0) × (get_or xs k 0 ≤ d)
  pub once : (j k : ℕ) → j < i → k < i → get_or xs j 0 ≡ get_or xs k 0 → j ≡ k
  pub marks : (k : ℕ) → k < i → get_or seen (target xs k) false ≡ true
  pub marked : (y : ℕ) → y < 16 → get_or seen y false ≡ true → (k : ℕ) × (k < i) × (target xs k ≡ y)

pub seen_more : (d i : ℕ) (xs : List ℕ) (seen : List Bool) → d ≤ 16 → 1 ≤ get_or xs i 0 → get_or xs i 0 ≤ d → get_or seen (target xs i) false ≡ false → Seen d i xs seen
    → Seen d (i + 1) xs (set seen (target xs i) true)
seen_more d i xs seen few low high new s = record {
  long = length-set seen (target xs i) true ∙ s.long;
  within = λ k l. elim (cases_eq k i) [ inl q ↦ rw q (low, high) | inr q ↦ s.within k (omega arith) ];
  once = λ j k l m e. elim (cases_eq j i) [
    | inl p ↦ elim (cases_eq k i) [ inl q ↦ p ∙ sym q | inr q ↦ absurd (other k (omega arith) (sym e ∙ ap (λ n. get_or xs n 0) p)) ]
    | inr p ↦ elim (cases_eq k i) [ inl q ↦ absurd (other j (omega arith) (e ∙ ap (λ n. get_or xs n 0) q)) | inr q ↦ s.once j k (omega arith) (omega arith) e ]
  ];
  marks = λ k l. elim (cases_eq (target xs k) (target xs i)) [
    | inl q ↦ rw q here
    | inr q ↦ elim (cases_eq k i) [
      | inl p ↦ absurd (q (ap (target xs) p))
      | inr p ↦ get_or-set_other seen (target xs i) (target xs k) true false q ∙ s.marks k (omega arith)
    ]
  ];
  marked = λ y l e. elim (cases_eq y (target xs i)) [
    | inl q ↦ (i, omega arith, sym q)
    | inr q ↦ let m = s.marked y l (sym (get_or-set_other seen (target xs i) y true false q) ∙ e) in (m.0, omega (arith, m.1), m.2)
  ];
}
  where
    here : get_or (set seen (target xs i) true) (target xs i) false ≡ true
    here = get_or-set_same seen (target xs i) true false (omega (arith, s.long, target_is xs i))

    other : (k : ℕ) → k < i → get_or xs k 0 ≡ get_or xs i 0 → ⊥
    other k l e = both_ways (get_or seen (target xs i) false) new (subst (λ n. get_or seen (n - 1) false ≡ true) e (s.marks k l))

pub seen_all : (d : ℕ) (xs : List ℕ) (seen : List Bool) → length xs ≡ d → Seen d d xs seen → Lists d xs
seen_all d xs seen e s = record { long = e; within = s.within; once = s.once }

-- a square that was seen is listed twice
pub seen_twice : (d i : ℕ) (xs : List ℕ) (seen : List Bool) → d ≤ 16 → i < d → Seen d i xs seen → get_or seen (target xs i) false ≡ true → Lists d xs → ⊥
seen_twice d i xs seen few l s e p =
    let low = p.within i l in
    let m = s.marked (target xs i) (omega (arith, low.0, low.1, target_is xs i)) e in
    let w = s.within m.0 m.1 in
    let same = p.once m.0 i (omega (arith, m.1)) l (omega (arith, m.2, low.0, w.0, target_is xs i, target_is xs m.0)) in
    omega (arith, same, m.1)

-- lists that pass are a gluing

lists_permutes : (d : ℕ) (xs : List ℕ) → Lists d xs → Permutes d (target xs)
lists_permutes d xs p = (
  λ i l. let w = p.within i l in omega (arith, w.0, w.1, target_is xs i),
  λ i j l m e. p.once i j l m (omega (arith, e, (p.within i l).0, (p.within j m).0, target_is xs i, target_is xs j)),
)

module _ (xs ys : List ℕ) (fit : FitDegree xs) (p : Lists (length xs) xs) (q : Lists (length xs) ys) where
  -- the entries of the gluing are those of the lists
  as_listed : Carries (length xs) (λ i. i) (target xs) (target ys) (right_of (listed xs ys)) (up_of (listed xs ys))
  as_listed = carries_same (length xs) (target xs) (target ys) (right_of (listed xs ys)) (up_of (listed xs ys))
      (λ i l. sym (padded_at (length xs) (target xs) fit.1 i l)) (λ i l. sym (padded_at (length xs) (target ys) fit.1 i l))

  listed_rights : Permutes (length xs) (right_of (listed xs ys))
  listed_rights = carries_permutes_right as_listed (lists_permutes (length xs) xs p)

  listed_ups : Permutes (length xs) (up_of (listed xs ys))
  listed_ups = carries_permutes_up as_listed (lists_permutes (length xs) ys q)

  pub listed_inside : Inside (listed xs ys)
  listed_inside = record { some = fit.0; few = fit.1; rights = listed_rights.0; ups = listed_ups.0 }

  pub listed_glues : AllReached (listed xs ys) → Glues (listed xs ys)
  listed_glues r = record { some = fit.0; few = fit.1; rights = listed_rights; ups = listed_ups; reached = r }

  pub whole_all_reached : length (order (listed xs ys) 0) ≡ length xs → AllReached (listed xs ys)
  whole_all_reached = whole_reached (length xs) (right_of (listed xs ys)) (up_of (listed xs ys)) listed_rights.0 listed_ups.0 fit.0

  pub all_reached_whole : AllReached (listed xs ys) → length (order (listed xs ys) 0) ≡ length xs
  all_reached_whole r = glued_whole (listed xs ys) (listed_glues r) 0 fit.0
