-- Counting the numbers that pass a test.
use Rattle.std.proofs.Common.{◌≡◌, ℕ, zero, suc, ◌+◌, ◌<◌, ◌≤◌, Bool, true, false, cond, eqb, List, [], ◌∷◌, ◌++◌, length, sym, refl, ap, ◌∙◌, add-one, arith, eq-eqb, ne_eqb, eqb-true, length-append}
use Rattle.std.specs.List.{filter, range_with_len}
use Rattle.std.proofs.lemmas.List.{length_push, map-id}
use Rattle.std.proofs.lemmas.List.FromFn.{filter_of_map_range_with_len_more}
use native.Mathlib.Decide.{ℕ_discrete}
use Rattle.table.specs.Shapes.{counted}

-- one number more to look at
counted_yes : (f : ℕ → Bool) (n : ℕ) → f n ≡ true → counted f (suc n) ≡ suc (counted f n)
counted_yes f n e = ap (λ b. cond b (suc (counted f n)) (counted f n)) e

counted_no : (f : ℕ → Bool) (n : ℕ) → f n ≡ false → counted f (suc n) ≡ counted f n
counted_no f n e = ap (λ b. cond b (suc (counted f n)) (counted f n)) e

-- one number more is one more that passes, or none
more_length : (b : Bool) (xs : List ℕ) (n : ℕ) → length (xs ++ cond b (n ∷ []) []) ≡ cond b (suc (length xs)) (length xs)
more_length true xs n = length_push xs n ∙ add-one (length xs)
more_length false xs n = omega (arith, length-append {A = ℕ})

-- a count is how many numbers of a range pass
pub counted_filter : (f : ℕ → Bool) (n : ℕ) → length (filter f (range_with_len 0 n)) ≡ counted f n
counted_filter f zero = refl
counted_filter f (suc n) =
    ap (λ k. length (filter f (range_with_len 0 k))) (sym (add-one n))
    ∙ ap (λ l. length (filter f l)) (sym (map-id (range_with_len 0 (n + 1))))
    ∙ ap length (filter_of_map_range_with_len_more f (λ k. k) 0 n n (omega arith))
    ∙ ap (λ l. length (filter f l ++ cond (f n) (n ∷ []) [])) (map-id (range_with_len 0 n))
    ∙ more_length (f n) (filter f (range_with_len 0 n)) n
    ∙ ap (λ k. cond (f n) (suc k) k) (counted_filter f n)

pub truth : (b : Bool) → (b ≡ true → ⊥) → b ≡ false
truth true h = absurd (h refl)
truth false h = refl

-- none passes
pub counted_none : (f : ℕ → Bool) (n : ℕ) → ((q : ℕ) → q < n → f q ≡ false) → counted f n ≡ 0
counted_none f zero h = refl
counted_none f (suc n) h = counted_no f n (h n (omega arith)) ∙ counted_none f n (λ q l. h q (omega arith))

-- all pass
pub counted_all : (f : ℕ → Bool) (n : ℕ) → ((q : ℕ) → q < n → f q ≡ true) → counted f n ≡ n
counted_all f zero h = refl
counted_all f (suc n) h = counted_yes f n (h n (omega arith)) ∙ ap suc (counted_all f n (λ q l. h q (omega arith)))

-- no more pass than there are
pub counted_most : (f : ℕ → Bool) (n : ℕ) → counted f n ≤ n
counted_most f zero = omega arith
counted_most f (suc n) = by (f n) (counted_most f n)
  where
    by : (b : Bool) {m : ℕ} → m ≤ n → cond b (suc m) m ≤ suc n
    by true h = omega arith
    by false h = omega arith

-- where each number passes f exactly if it passes one of g and h, and never both, the counts add up
pub record Parts (f g h : ℕ → Bool) (n : ℕ) : Type 0 where
  pub first : (q : ℕ) → q < n → g q ≡ true → (f q ≡ true) × (h q ≡ false)
  pub second : (q : ℕ) → q < n → h q ≡ true → f q ≡ true
  pub neither : (q : ℕ) → q < n → g q ≡ false → h q ≡ false → f q ≡ false

pub counted_parts : (f g h : ℕ → Bool) (n : ℕ) → Parts f g h n → counted f n ≡ counted g n + counted h n
counted_parts f g h zero p = omega arith
counted_parts f g h (suc n) p = by (g n) refl (h n) refl
    (counted_parts f g h n (record { first = λ q l. p.first q (omega arith); second = λ q l. p.second q (omega arith); neither = λ q l. p.neither q (omega arith) }))
  where
    by : (a : Bool) → g n ≡ a → (b : Bool) → h n ≡ b → counted f n ≡ counted g n + counted h n → counted f (suc n) ≡ counted g (suc n) + counted h (suc n)
    by true a b e i =
        let c = p.first n (omega arith) a in
        let x = counted_yes f n c.0 in let y = counted_yes g n a in let z = counted_no h n c.1 in omega arith
    by false a true e i = let x = counted_yes f n (p.second n (omega arith) e) in let y = counted_no g n a in let z = counted_yes h n e in omega arith
    by false a false e i = let x = counted_no f n (p.neither n (omega arith) a e) in let y = counted_no g n a in let z = counted_no h n e in omega arith

-- exactly one number passes the test for a number
pub counted_one : (x n : ℕ) → x < n → counted (λ q. eqb q x) n ≡ 1
counted_one x zero h = absurd (omega arith)
counted_one x (suc n) h = elim (ℕ_discrete n x) [
  | yes e ↦ counted_yes (λ q. eqb q x) n (eq-eqb n x e) ∙ ap suc (counted_none (λ q. eqb q x) n (λ q l. ne_eqb q x (λ d. omega arith)))
  | no e ↦ counted_no (λ q. eqb q x) n (ne_eqb n x e) ∙ counted_one x n (omega arith)
]

-- g numbers the numbers below n that pass f, from 0 to w - 1
pub record Numbers (f : ℕ → Bool) (n : ℕ) (g : ℕ → ℕ) (w : ℕ) : Type 0 where
  pub below : (m : ℕ) → m < w → g m < n
  pub passes : (m : ℕ) → m < w → f (g m) ≡ true
  pub apart : (i j : ℕ) → i < w → j < w → g i ≡ g j → i ≡ j
  pub onto : (q : ℕ) → q < n → f q ≡ true → (m : ℕ) × (m < w) × (g m ≡ q)

-- f without the number x
without : (ℕ → Bool) → ℕ → ℕ → Bool
without f x q = cond (eqb q x) false (f q)

without_at : (f : ℕ → Bool) (x q : ℕ) → q ≡ x → without f x q ≡ false
unfolding without
without_at f x q e = ap (λ b. cond b false (f q)) (eq-eqb q x e)

without_off : (f : ℕ → Bool) (x q : ℕ) → (q ≡ x → ⊥) → without f x q ≡ f q
unfolding without
without_off f x q e = ap (λ b. cond b false (f q)) (ne_eqb q x e)

pub yes_not_no : (b : Bool) → b ≡ true → b ≡ false → ⊥
yes_not_no b p q = let z : ◌≡◌ {A = Bool} true false = sym p ∙ q in let w : ◌≡◌ {A = ℕ} 0 1 = cc in omega arith

-- what is numbered from 0 to w - 1 is w numbers
pub counted_numbers : (f : ℕ → Bool) (n : ℕ) (g : ℕ → ℕ) (w : ℕ) → Numbers f n g w → counted f n ≡ w
counted_numbers f n g zero k = counted_none f n (λ q l. truth (f q) (λ e. let p = k.onto q l e in omega arith))
counted_numbers f n g (suc w) k =
    let x = g w in
    let lx = k.below w (omega arith) in
    let fx = k.passes w (omega arith) in
    let rest = counted_numbers (without f x) n g w (record {
      below = λ m l. k.below m (omega arith);
      passes = λ m l. without_off f x (g m) (λ e. let z = k.apart m w (omega arith) (omega arith) e in omega arith) ∙ k.passes m (omega arith);
      apart = λ i j a b e. k.apart i j (omega arith) (omega arith) e;
      onto = λ q l e. elim (ℕ_discrete q x) [
        | yes d ↦ absurd (yes_not_no (without f x q) e (without_at f x q d))
        | no d ↦ let p = k.onto q l (sym (without_off f x q d) ∙ e) in elim (ℕ_discrete p.0 w) [
          | yes y ↦ absurd (d (sym p.2 ∙ ap g y))
          | no y ↦ (p.0, omega arith, p.2)
        ]
      ];
    }) in
    let one = counted_one x n lx in
    let parts = counted_parts f (λ q. eqb q x) (without f x) n (record {
      first = λ q l e. let d = eqb-true q x e in (ap f d ∙ fx, without_at f x q d);
      second = λ q l e. elim (ℕ_discrete q x) [ yes d ↦ ap f d ∙ fx | no d ↦ sym (without_off f x q d) ∙ e ];
      neither = λ q l a b. elim (ℕ_discrete q x) [ yes d ↦ absurd (yes_not_no (eqb q x) (eq-eqb q x d) a) | no d ↦ sym (without_off f x q d) ∙ b ];
    }) in
    omega arith
