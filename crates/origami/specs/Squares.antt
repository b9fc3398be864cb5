-- Squares and the steps between them, as functions on the numbers below d. A pair f, g says of each square what is right of it and above it.
--     Into d f             f sends each number below d to one below d
--     Apart d f            f never sends two numbers below d to one
--     Permutes d f         both: f is a permutation of the numbers below d
--     inverse d f j        the number below d that f sends to j, or 0 where there is none
--     Undone d f           f is into, and its inverse undoes it
--     Reached f g i        one gets from square 0 to square i by f and g
--     Carries d σ f g h k  σ is a renumbering: a permutation of the squares that carries f to h and g to k
--     place y xs           the index of the first y in xs, or the length of xs where there is none
--     added y xs           xs, with y at its end unless it is there already
--     visited f g y xs     after a visit to the square y: first its right neighbour is added, then its upper one
--     numbered f g x n     the squares that have a number after n visits, in the order of their numbers, where x has the first
--     renumbered h x xs k  the new number of the square to which h leads from the one with the new number k
use Rattle.std.specs.Prelude.{◌≡◌, ℕ, zero, suc, ◌<◌, cond, List, [], ◌∷◌, ◌++◌, length, ◌==◌, nat_lt, slice_index_or}

abbrev pub Into : ℕ → (ℕ → ℕ) → Type 0
Into d f = (i : ℕ) → i < d → f i < d

abbrev pub Apart : ℕ → (ℕ → ℕ) → Type 0
Apart d f = (i j : ℕ) → i < d → j < d → f i ≡ f j → i ≡ j

abbrev pub Permutes : ℕ → (ℕ → ℕ) → Type 0
Permutes d f = Into d f × Apart d f

abbrev pub inverse : ℕ → (ℕ → ℕ) → ℕ → ℕ
inverse zero f j = 0
inverse (suc n) f j = cond (f n == j) n (inverse n f j)

abbrev pub Undone : ℕ → (ℕ → ℕ) → Type 0
Undone d f = (i : ℕ) → i < d → (f i < d) × (inverse d f (f i) ≡ i)

pub data Reached (f g : ℕ → ℕ) : ℕ → Type 0 where
  here : Reached f g 0
  right : {i : ℕ} → Reached f g i → Reached f g (f i)
  up : {i : ℕ} → Reached f g i → Reached f g (g i)

pub record Carries (d : ℕ) (σ f g h k : ℕ → ℕ) : Type 0 where
  pub permutes : Permutes d σ
  pub rights : (i : ℕ) → i < d → σ (f i) ≡ h (σ i)
  pub ups : (i : ℕ) → i < d → σ (g i) ≡ k (σ i)

abbrev pub place : ℕ → List ℕ → ℕ
place y [] = 0
place y (x ∷ xs) = cond (x == y) 0 (suc (place y xs))

abbrev pub added : ℕ → List ℕ → List ℕ
added y xs = cond (nat_lt (place y xs) (length xs)) xs (xs ++ y ∷ [])

abbrev pub visited : (ℕ → ℕ) → (ℕ → ℕ) → ℕ → List ℕ → List ℕ
visited f g y xs = added (g y) (added (f y) xs)

abbrev pub numbered : (ℕ → ℕ) → (ℕ → ℕ) → ℕ → ℕ → List ℕ
numbered f g x zero = x ∷ []
numbered f g x (suc n) = visited f g (slice_index_or (numbered f g x n) n x) (numbered f g x n)

abbrev pub renumbered : (ℕ → ℕ) → ℕ → List ℕ → ℕ → ℕ
renumbered h x xs k = place (h (slice_index_or xs k x)) xs
