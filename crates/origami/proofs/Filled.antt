-- Lists of 16 entries that a loop fills.
use Rattle.std.proofs.Common.{◌≡◌, ℕ, suc, ◌+◌, ◌<◌, ◌≤◌, cond, eqb, ltb, List, length, get_or, set, sym, ◌∙◌, inl, inr, add-one, arith}
use Rattle.std.proofs.lemmas.List.{length-set, get_or-set_same, get_or-set_other}
use Rattle.std.proofs.lemmas.Bool.{cases_eq, cases_lt, cond-true, cond-false, lt-ltb, le-ltb, eq-eqb, ne_eqb}
use Rattle.origami.specs.Gluings.{padded}
use Rattle.origami.specs.Squares.{inverse}
use Rattle.origami.specs.laws.Padded.{padded_is}

-- the first i entries are those of h, and the others are 0
abbrev pub Filled : ℕ → (ℕ → ℕ) → List ℕ → Type 0
Filled i h xs = (length xs ≡ 16) × ((k : ℕ) → k < 16 → get_or xs k 0 ≡ cond (ltb k i) (h k) 0)

pub filled_more : (h : ℕ → ℕ) (i : ℕ) (xs : List ℕ) (v : ℕ) → i < 16 → v ≡ h i → Filled i h xs → Filled (i + 1) h (set xs i v)
filled_more h i xs v l e f = (length-set xs i v ∙ f.0, entry)
  where
    entry : (k : ℕ) → k < 16 → get_or (set xs i v) k 0 ≡ cond (ltb k (i + 1)) (h k) 0
    entry k b = elim (cases_eq k i) [
      | inl q ↦ rw q (get_or-set_same xs i v 0 (omega (arith, f.0)) ∙ e ∙ sym (cond-true (ltb i (i + 1)) (h i) 0 (lt-ltb i (i + 1) (omega arith))))
      | inr q ↦ get_or-set_other xs i k v 0 q ∙ f.1 k b ∙ elim (cases_lt k i) [
        | inl m ↦ cond-true (ltb k i) (h k) 0 (lt-ltb k i m) ∙ sym (cond-true (ltb k (i + 1)) (h k) 0 (lt-ltb k (i + 1) (omega arith)))
        | inr m ↦ cond-false (ltb k i) (h k) 0 (le-ltb k i m) ∙ sym (cond-false (ltb k (i + 1)) (h k) 0 (le-ltb k (i + 1) (omega arith)))
      ]
    ]

pub filled_all : (d : ℕ) (h : ℕ → ℕ) (xs : List ℕ) → Filled d h xs → xs ≡ padded d h
filled_all d h xs f = padded_is d h xs f.0 f.1

-- the entries below d are those of the inverse of f, as far as it is known from the numbers below i
abbrev pub Undoing : ℕ → (ℕ → ℕ) → ℕ → List ℕ → Type 0
Undoing d f i xs = (length xs ≡ 16) × ((k : ℕ) → k < 16 → get_or xs k 0 ≡ cond (ltb k d) (inverse i f k) 0)

pub undoing_more : (d : ℕ) (f : ℕ → ℕ) (i : ℕ) (xs : List ℕ) → d ≤ 16 → f i < d → Undoing d f i xs → Undoing d f (i + 1) (set xs (f i) i)
undoing_more d f i xs few l u = (length-set xs (f i) i ∙ u.0, λ k b. rw add-one (entry k b))
  where
    entry : (k : ℕ) → k < 16 → get_or (set xs (f i) i) k 0 ≡ cond (ltb k d) (inverse (suc i) f k) 0
    entry k b = elim (cases_eq (f i) k) [
      | inl q ↦
          get_d_set_at q b
          ∙ sym (cond-true (ltb k d) (inverse (suc i) f k) 0 (lt-ltb k d (omega (arith, q))) ∙ cond-true (eqb (f i) k) i (inverse i f k) (eq-eqb (f i) k q))
      | inr q ↦ get_or-set_other xs (f i) k i 0 (λ e. q (sym e)) ∙ u.1 k b
          ∙ (λ t. cond (ltb k d) (sym (cond-false (eqb (f i) k) i (inverse i f k) (ne_eqb (f i) k q)) t) 0)
    ]
      where
        get_d_set_at : f i ≡ k → k < 16 → get_or (set xs (f i) i) k 0 ≡ i
        get_d_set_at q b = rw q (get_or-set_same xs k i 0 (omega (arith, u.0)))

pub undoing_all : (d : ℕ) (f : ℕ → ℕ) (xs : List ℕ) → Undoing d f d xs → xs ≡ padded d (inverse d f)
undoing_all d f xs u = padded_is d (inverse d f) xs u.0 u.1
