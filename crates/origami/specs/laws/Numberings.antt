-- The squares that a numbering reaches: each once, and with each its neighbours.
use Rattle.std.specs.Prelude.{◌≡◌, ℕ, zero, suc, ◌<◌, ◌≤◌, List, [], ◌∷◌, ◌++◌, length, get_or, slice_index_or, refl}
use Rattle.std.proofs.Common.{sym, ◌∙◌, ap, subst, inl, inr, arith}
use Rattle.std.proofs.lemmas.List.{length_push, get_or_append_left, get_or_push, get_or_past}
use Rattle.std.proofs.lemmas.Bool.{cases_eq, cases_lt}
use Rattle.origami.specs.Squares.{Into, Permutes, place, added, visited, numbered}
use Rattle.origami.specs.laws.Injections.{pigeonhole, onto}
use Rattle.origami.specs.laws.Places.{In, at_place, at_in, place_here, place_before, place_after, added_old, added_new}

-- what is added is there, and what was there stays where it was

pub added_in : (y : ℕ) (xs : List ℕ) → In y (added y xs)
added_in y xs = elim (cases_lt (place y xs) (length xs)) [
  | inl l ↦ rw (added_old y xs l) l
  | inr l ↦ rw (added_new y xs l) (omega (arith, place_after y xs (y ∷ []) l, place_here y y [] refl, length_push xs y))
]

pub added_kept : (z y : ℕ) (xs : List ℕ) → In z xs → In z (added y xs)
added_kept z y xs h = elim (cases_lt (place y xs) (length xs)) [
  | inl l ↦ rw (added_old y xs l) h
  | inr l ↦ rw (added_new y xs l) (omega (arith, place_before z xs (y ∷ []) h, length_push xs y))
]

pub added_longer : (y : ℕ) (xs : List ℕ) → length xs ≤ length (added y xs)
added_longer y xs = elim (cases_lt (place y xs) (length xs)) [
  | inl l ↦ rw (added_old y xs l) (omega arith)
  | inr l ↦ rw (added_new y xs l) (omega (arith, length_push xs y))
]

pub added_same : (y : ℕ) (xs : List ℕ) (k x : ℕ) → k < length xs → slice_index_or (added y xs) k x ≡ slice_index_or xs k x
added_same y xs k x h = elim (cases_lt (place y xs) (length xs)) [
  | inl l ↦ rw (added_old y xs l) refl
  | inr l ↦ rw (added_new y xs l) (get_or_append_left xs (y ∷ []) x k h)
]

-- a list that begins with x, has no square twice, and has only squares of which P holds
pub record Listed (P : ℕ → Type 0) (x : ℕ) (xs : List ℕ) : Type 0 where
  pub begins : 0 < length xs
  pub first : get_or xs 0 x ≡ x
  pub all : (k : ℕ) → P (slice_index_or xs k x)
  pub once : (k : ℕ) → k < length xs → place (slice_index_or xs k x) xs ≡ k

module _ {P : ℕ → Type 0} (x : ℕ) where
  pub listed_one : P x → Listed P x (x ∷ [])
  listed_one p = record {
    begins = omega arith;
    first = refl;
    all = alone;
    once = λ k l. single k (omega arith);
  }
    where
      alone : (k : ℕ) → P (slice_index_or (x ∷ []) k x)
      alone zero = p
      alone (suc k) = p

      single : (k : ℕ) → k ≡ 0 → place (slice_index_or (x ∷ []) k x) (x ∷ []) ≡ k
      single k e = rw e (place_here x x [] refl)

  listed_push : (y : ℕ) (xs : List ℕ) → P y → length xs ≤ place y xs → Listed P x xs → Listed P x (xs ++ y ∷ [])
  listed_push y xs p l h = record {
    begins = omega (arith, length_push xs y, h.begins);
    first = get_or_append_left xs (y ∷ []) x 0 h.begins ∙ h.first;
    all = all;
    once = once;
  }
    where
      past : (k : ℕ) → length xs < k → slice_index_or (xs ++ y ∷ []) k x ≡ x
      past k g = get_or_past (xs ++ y ∷ []) k x (omega (arith, length_push xs y))

      last : (k : ℕ) → k ≡ length xs → slice_index_or (xs ++ y ∷ []) k x ≡ y
      last k e = get_or_push xs y x k (sym e)

      all : (k : ℕ) → P (slice_index_or (xs ++ y ∷ []) k x)
      all k = elim (cases_lt k (length xs)) [
        | inl g ↦ subst P (sym (get_or_append_left xs (y ∷ []) x k g)) (h.all k)
        | inr g ↦ elim (cases_eq k (length xs)) [
          | inl e ↦ subst P (sym (last k e)) p
          | inr e ↦ subst P (sym (past k (omega arith))) (subst P h.first (h.all 0))
        ]
      ]

      once : (k : ℕ) → k < length (xs ++ y ∷ []) → place (slice_index_or (xs ++ y ∷ []) k x) (xs ++ y ∷ []) ≡ k
      once k g = elim (cases_lt k (length xs)) [
        | inl b ↦ ap (λ z. place z (xs ++ y ∷ [])) (get_or_append_left xs (y ∷ []) x k b) ∙ place_before (slice_index_or xs k x) xs (y ∷ []) (at_in k xs x b) ∙ h.once k b
        | inr b ↦
            let e : k ≡ length xs = omega (arith, length_push xs y) in
            ap (λ z. place z (xs ++ y ∷ [])) (last k e) ∙ omega (arith, place_after y xs (y ∷ []) l, place_here y y [] refl)
      ]

  pub listed_added : (y : ℕ) (xs : List ℕ) → P y → Listed P x xs → Listed P x (added y xs)
  listed_added y xs p h = elim (cases_lt (place y xs) (length xs)) [
    | inl l ↦ subst (Listed P x) (sym (added_old y xs l)) h
    | inr l ↦ subst (Listed P x) (sym (added_new y xs l)) (listed_push y xs p l h)
  ]

-- a list of squares below d, none twice, has at most d
pub listed_short : (d x : ℕ) (xs : List ℕ) → Listed (λ y. y < d) x xs → length xs ≤ d
listed_short d x xs h = pigeonhole (length xs) d (λ k. get_or xs k x) (λ k l. h.all k)
    (λ i j k l e. sym (h.once i k) ∙ ap (λ y. place y xs) e ∙ h.once j l)

-- a list of d squares below d, none twice, has each
pub listed_full : (d x : ℕ) (xs : List ℕ) → Listed (λ y. y < d) x xs → length xs ≡ d → (y : ℕ) → y < d → In y xs
listed_full d x xs h e y l =
    let o = onto d (λ k. get_or xs k x) ((λ k l. h.all k), λ i j k l q. sym (h.once i (omega arith)) ∙ ap (λ y. place y xs) q ∙ h.once j (omega arith)) y l in
    subst (λ z. In z xs) o.2 (at_in o.0 xs x (omega (arith, o.1)))

-- a list that has each square below d has at least d
pub full_long : (d x : ℕ) (xs : List ℕ) → ((y : ℕ) → y < d → In y xs) → d ≤ length xs
full_long d x xs h = pigeonhole d (length xs) (λ y. place y xs) h
    (λ i j k l e. sym (at_place i xs x (h i k)) ∙ ap (λ p. get_or xs p x) e ∙ at_place j xs x (h j l))

module _ (f g : ℕ → ℕ) (x : ℕ) where
  -- a numbering stays within what f and g keep
  pub numbered_listed : {P : ℕ → Type 0} → P x → ((y : ℕ) → P y → P (f y)) → ((y : ℕ) → P y → P (g y)) → (n : ℕ) → Listed P x (numbered f g x n)
  numbered_listed p a b zero = listed_one x p
  numbered_listed p a b (suc n) =
      let xs = numbered f g x n in
      let h = numbered_listed p a b n in
      let y = get_or xs n x in
      listed_added x (g y) (added (f y) xs) (b y (h.all n)) (listed_added x (f y) xs (a y (h.all n)) h)

  -- the neighbours of the square at k stand in xs
  abbrev Met : List ℕ → ℕ → Type 0
  Met xs k = In (f (slice_index_or xs k x)) xs × In (g (slice_index_or xs k x)) xs

  visited_met : (y : ℕ) (xs : List ℕ) (z : ℕ) → In z xs → In z (visited f g y xs)
  visited_met y xs z h = added_kept z (g y) (added (f y) xs) (added_kept z (f y) xs h)

  visited_same : (y : ℕ) (xs : List ℕ) (k : ℕ) → k < length xs → slice_index_or (visited f g y xs) k x ≡ slice_index_or xs k x
  visited_same y xs k l = added_same (g y) (added (f y) xs) k x (omega (arith, added_longer (f y) xs)) ∙ added_same (f y) xs k x l

  -- the squares visited have met their neighbours
  pub numbered_met : (n : ℕ) → (k : ℕ) → k < n → Met (numbered f g x n) k
  numbered_met zero k l = absurd (omega arith)
  numbered_met (suc n) k l = elim (cases_lt n (length xs)) [
    | inl b ↦
        let same = visited_same y xs k (omega arith) in
        elim (cases_eq k n) [
          | inl e ↦
              let this : get_or xs k x ≡ y = ap (λ j. get_or xs j x) e in
              rw (same ∙ this) (added_kept (f y) (g y) (added (f y) xs) (added_in (f y) xs), added_in (g y) (added (f y) xs))
          | inr e ↦ let m = numbered_met n k (omega arith) in rw same (visited_met y xs (f (slice_index_or xs k x)) m.0, visited_met y xs (g (slice_index_or xs k x)) m.1)
        ]
    | inr b ↦
        let s = numbered_listed {P = λ _. Unit {0}} tt (λ _ _. tt) (λ _ _. tt) n in
        let m = numbered_met n 0 (omega (arith, s.begins)) in
        let m' : In (f x) xs × In (g x) xs = rw s.first at m in
        let end : y ≡ x = get_or_past xs n x b in
        let stays : visited f g y xs ≡ xs = rw end (ap (added (g x)) (added_old (f x) xs m'.0) ∙ added_old (g x) xs m'.1) in
        rw stays (elim (cases_eq k n) [
          | inl e ↦ let this : get_or xs k x ≡ x = ap (λ j. get_or xs j x) e ∙ end in rw this m'
          | inr e ↦ numbered_met n k (omega arith)
        ])
  ]
    where
      xs : List ℕ
      xs = numbered f g x n

      y : ℕ
      y = slice_index_or xs n x

module _ (d : ℕ) (f g : ℕ → ℕ) (a : Into d f) (b : Into d g) (x : ℕ) (lx : x < d) where
  pub order_listed : (n : ℕ) → Listed (λ y. y < d) x (numbered f g x n)
  order_listed = numbered_listed f g x lx a b

  -- all numbered squares have met their neighbours
  order_met : (y : ℕ) → In y (numbered f g x d) → In (f y) (numbered f g x d) × In (g y) (numbered f g x d)
  order_met y h =
      let xs = numbered f g x d in
      let m = numbered_met f g x d (place y xs) (omega (arith, listed_short d x xs (order_listed d))) in
      rw (at_place y xs x h) at m

  pub order_right : (y : ℕ) → In y (numbered f g x d) → In (f y) (numbered f g x d)
  order_right y h = (order_met y h).0

  pub order_up : (y : ℕ) → In y (numbered f g x d) → In (g y) (numbered f g x d)
  order_up y h = (order_met y h).1

  pub order_first : In x (numbered f g x d)
  order_first = let s = order_listed d in subst (λ y. In y (numbered f g x d)) s.first (at_in 0 (numbered f g x d) x s.begins)

-- a list that a permutation keeps is kept by its inverse
pub kept_back : (d x : ℕ) (xs : List ℕ) → Listed (λ y. y < d) x xs → (h : ℕ → ℕ) → Permutes d h
    → ((y : ℕ) → In y xs → In (h y) xs) → (y : ℕ) → y < d → In (h y) xs → In y xs
kept_back d x xs s h p keeps y l i =
    let q : ℕ → ℕ = λ k. place (h (slice_index_or xs k x)) xs in
    let stays : (k : ℕ) → k < length xs → In (h (slice_index_or xs k x)) xs = λ k m. keeps (slice_index_or xs k x) (at_in k xs x m) in
    let same : (k : ℕ) (z : ℕ) → k < length xs → z < d → In (h z) xs → q k ≡ place (h z) xs → slice_index_or xs k x ≡ z =
    λ k z m c n e. p.1 (slice_index_or xs k x) z (s.all k) c (sym (at_place (h (slice_index_or xs k x)) xs x (stays k m)) ∙ ap (λ j. get_or xs j x) e ∙ at_place (h z) xs x n) in
    let o = onto (length xs) q (stays, λ j k m n e. sym (s.once j m) ∙ ap (λ z. place z xs) (same j (slice_index_or xs k x) m (s.all k) (stays k n) e) ∙ s.once k n) (place (h y) xs) i in
    subst (λ z. In z xs) (same o.0 y o.1 l i o.2) (at_in o.0 xs x o.1)
