-- Where numbers stand in a list.
use Rattle.std.specs.Prelude.{◌≡◌, ℕ, zero, suc, ◌+◌, ◌<◌, ◌≤◌, List, [], ◌∷◌, ◌++◌, map, length, get_or, ◌==◌, ◌≢◌, nat_lt, slice_index_or, refl}
use Rattle.std.proofs.Common.{sym, ◌∙◌, ap, inl, inr, arith}
use Rattle.std.proofs.lemmas.Bool.{cases_eq, cond-true, cond-false, eq-eqb, ne_eqb, lt-ltb, le-ltb}
use Rattle.origami.specs.Squares.{Apart, place, added}

-- y stands in xs
abbrev pub In : ℕ → List ℕ → Type 0
In y xs = place y xs < length xs

pub place_here : (y x : ℕ) (xs : List ℕ) → x ≡ y → place y (x ∷ xs) ≡ 0
place_here y x xs e = cond-true (x == y) 0 (suc (place y xs)) (eq-eqb x y e)

pub place_there : (y x : ℕ) (xs : List ℕ) → (x ≢ y) → place y (x ∷ xs) ≡ suc (place y xs)
place_there y x xs e = cond-false (x == y) 0 (suc (place y xs)) (ne_eqb x y e)

pub place_le : (y : ℕ) (xs : List ℕ) → place y xs ≤ length xs
place_le y [] = omega arith
place_le y (x ∷ xs) = elim (cases_eq x y) [
  | inl e ↦ omega (arith, place_here y x xs e)
  | inr e ↦ omega (arith, place_there y x xs e, place_le y xs)
]

pub at_place : (y : ℕ) (xs : List ℕ) (d : ℕ) → In y xs → slice_index_or xs (place y xs) d ≡ y
at_place y [] d l = absurd (omega arith)
at_place y (x ∷ xs) d l = elim (cases_eq x y) [
  | inl e ↦ rw (place_here y x xs e) e
  | inr e ↦ let p = place_there y x xs e in rw p (at_place y xs d (omega (arith, p)))
]

-- what stands at k stands first at k or before
pub place_at : (k : ℕ) (xs : List ℕ) (d : ℕ) → k < length xs → place (slice_index_or xs k d) xs ≤ k
place_at k [] d l = absurd (omega arith)
place_at zero (x ∷ xs) d l = omega (arith, place_here x x xs refl)
place_at (suc k) (x ∷ xs) d l = let y = get_or xs k d in elim (cases_eq x y) [
  | inl e ↦ omega (arith, place_here y x xs e)
  | inr e ↦ omega (arith, place_there y x xs e, place_at k xs d (omega arith))
]

pub at_in : (k : ℕ) (xs : List ℕ) (d : ℕ) → k < length xs → In (slice_index_or xs k d) xs
at_in k xs d l = omega (arith, place_at k xs d l)

pub place_before : (y : ℕ) (xs ys : List ℕ) → In y xs → place y (xs ++ ys) ≡ place y xs
place_before y [] ys l = absurd (omega arith)
place_before y (x ∷ xs) ys l = elim (cases_eq x y) [
  | inl e ↦ place_here y x (xs ++ ys) e ∙ sym (place_here y x xs e)
  | inr e ↦ let p = place_there y x xs e in place_there y x (xs ++ ys) e ∙ ap suc (place_before y xs ys (omega (arith, p))) ∙ sym p
]

pub place_after : (y : ℕ) (xs ys : List ℕ) → length xs ≤ place y xs → place y (xs ++ ys) ≡ length xs + place y ys
place_after y [] ys l = omega arith
place_after y (x ∷ xs) ys l = elim (cases_eq x y) [
  | inl e ↦ absurd (omega (arith, place_here y x xs e))
  | inr e ↦ let p = place_there y x xs e in omega (arith, place_there y x (xs ++ ys) e, place_after y xs ys (omega (arith, p)))
]

pub added_old : (y : ℕ) (xs : List ℕ) → In y xs → added y xs ≡ xs
added_old y xs l = cond-true (nat_lt (place y xs) (length xs)) xs (xs ++ y ∷ []) (lt-ltb (place y xs) (length xs) l)

pub added_new : (y : ℕ) (xs : List ℕ) → length xs ≤ place y xs → added y xs ≡ xs ++ y ∷ []
added_new y xs l = cond-false (nat_lt (place y xs) (length xs)) xs (xs ++ y ∷ []) (le-ltb (place y xs) (length xs) l)

-- a list under a function

pub get_d_map : (σ : ℕ → ℕ) (xs : List ℕ) (k x : ℕ) → slice_index_or (map σ xs) k (σ x) ≡ σ (slice_index_or xs k x)
get_d_map σ [] k x = refl
get_d_map σ (y ∷ xs) zero x = refl
get_d_map σ (y ∷ xs) (suc k) x = get_d_map σ xs k x

pub place_map : (d : ℕ) (σ : ℕ → ℕ) → Apart d σ → (y x : ℕ) (xs : List ℕ) → y < d → ((k : ℕ) → slice_index_or xs k x < d) → place (σ y) (map σ xs) ≡ place y xs
place_map d σ a y x [] l b = refl
place_map d σ a y x (z ∷ xs) l b = elim (cases_eq z y) [
  | inl e ↦ place_here (σ y) (σ z) (map σ xs) (ap σ e) ∙ sym (place_here y z xs e)
  | inr e ↦ place_there (σ y) (σ z) (map σ xs) (λ q. e (a z y (b 0) l q))
      ∙ ap suc (place_map d σ a y x xs l (λ k. b (suc k))) ∙ sym (place_there y z xs e)
]
