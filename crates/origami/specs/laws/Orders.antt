-- The order of lists by the first entry where they differ.
use Rattle.std.specs.Prelude.{◌≡◌, ℕ, ◌<◌, ◌≤◌, true, false, ◌&&◌, ◌⊎◌, List, [], ◌∷◌, length, ◌==◌, nat_lt, refl}
use Rattle.std.proofs.Common.{sym, ◌∙◌, inl, inr, arith}
use Rattle.std.proofs.lemmas.Bool.{ltb-false, ltb-true, le-ltb, eqb-true, eqb-false, ne_eqb, cases_eq, and_parts, and_cases, and_left, and_right, or_parts, or_from, or_cases, false≢true, true≢false}
use Rattle.origami.specs.Forms.{less}

late : (x y : ℕ) (xs ys : List ℕ) → less (x ∷ xs) (y ∷ ys) ≡ false → (y ≤ x) × (x ≡ y → less xs ys ≡ false)
late x y xs ys e = let p = or_parts (nat_lt x y) (x == y && less xs ys) e in (
  ltb-false x y p.0,
  λ q. elim (and_cases (x == y) (less xs ys) p.1) [ inl a ↦ absurd (eqb-false x y a q) | inr a ↦ a ],
)

is_late : (x y : ℕ) (xs ys : List ℕ) → y ≤ x → (x ≡ y → less xs ys ≡ false) → less (x ∷ xs) (y ∷ ys) ≡ false
is_late x y xs ys h k = or_from (nat_lt x y) (x == y && less xs ys) (le-ltb x y h) (elim (cases_eq x y) [
  | inl q ↦ and_right (x == y) (less xs ys) (k q)
  | inr n ↦ and_left (x == y) (less xs ys) (ne_eqb x y n)
])

soon : (x y : ℕ) (xs ys : List ℕ) → less (x ∷ xs) (y ∷ ys) ≡ true → (x < y) ⊎ ((x ≡ y) × (less xs ys ≡ true))
soon x y xs ys e = elim (or_cases (nat_lt x y) (x == y && less xs ys) e) [
  | inl a ↦ inl (ltb-true x y a)
  | inr a ↦ let p = and_parts (x == y) (less xs ys) a in inr (eqb-true x y p.0, p.1)
]

pub not_less_self : (xs : List ℕ) → less xs xs ≡ false
not_less_self [] = refl
not_less_self (x ∷ xs) = is_late x x xs xs (omega arith) (λ _. not_less_self xs)

-- what is not below b is not below what is below b
pub not_less_than : (xs ms bs : List ℕ) → less ms bs ≡ true → less xs bs ≡ false → less xs ms ≡ false
not_less_than xs [] [] s l = absurd (false≢true s)
not_less_than xs (m ∷ ms) [] s l = absurd (false≢true s)
not_less_than [] ms (b ∷ bs) s l = absurd (true≢false l)
not_less_than (x ∷ xs) [] (b ∷ bs) s l = refl
not_less_than (x ∷ xs) (m ∷ ms) (b ∷ bs) s l =
    let q = late x b xs bs l in
    elim (soon m b ms bs s) [
      | inl p ↦ is_late x m xs ms (omega (arith, q.0)) (λ e. absurd (omega (arith, q.0)))
      | inr p ↦ is_late x m xs ms (omega (arith, q.0, p.0)) (λ e. not_less_than xs ms bs p.1 (q.1 (e ∙ p.0)))
    ]

pub not_less_both : (xs ys : List ℕ) → length xs ≡ length ys → less xs ys ≡ false → less ys xs ≡ false → xs ≡ ys
not_less_both [] [] e l k = refl
not_less_both [] (y ∷ ys) e l k = absurd (omega arith)
not_less_both (x ∷ xs) [] e l k = absurd (omega arith)
not_less_both (x ∷ xs) (y ∷ ys) e l k =
    let p = late x y xs ys l in
    let q = late y x ys xs k in
    let s : x ≡ y = omega (arith, p.0, q.0) in
    λ i. s i ∷ not_less_both xs ys (omega arith) (p.1 s) (q.1 (sym s)) i
