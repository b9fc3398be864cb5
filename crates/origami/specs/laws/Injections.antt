-- Functions that send different numbers to different numbers: no such function goes from more numbers to fewer.
use Rattle.std.specs.Prelude.{◌≡◌, ℕ, zero, suc, ◌<◌, ◌≤◌, cond, ◌⊎◌, ◌==◌, ◌≢◌, refl}
use Rattle.std.proofs.Math.Path.{sym}
use Rattle.std.proofs.Common.{◌∙◌, arith}
use Rattle.std.proofs.Math.Logic.{inl, inr}
use Rattle.std.proofs.lemmas.Bool.{cases_eq, cases_lt, cond-true, cond-false, eq-eqb, ne_eqb}
use Rattle.origami.specs.Squares.{Into, Apart, Permutes, inverse}

-- h sends each number below n below m
abbrev pub Between : ℕ → ℕ → (ℕ → ℕ) → Type 0
Between n m h = (i : ℕ) → i < n → h i < m

-- h, with v in place of the value m
abbrev replaced : ℕ → ℕ → (ℕ → ℕ) → ℕ → ℕ
replaced m v h i = cond (h i == m) v (h i)

-- where v is not a value of h, the value m can be spared
module _ (n m v : ℕ) (h : ℕ → ℕ) (b : Between n (suc m) h) (a : Apart n h) (small : v < suc m) (free : (i : ℕ) → i < n → h i ≢ v) where
  Split : ℕ → Type 0
  Split i = ((h i ≡ m) × (replaced m v h i ≡ v)) ⊎ ((h i ≢ m) × (replaced m v h i ≡ h i))

  split : (i : ℕ) → Split i
  unfolding Split
  split i = elim (cases_eq (h i) m) [
    | inl e ↦ inl (e, cond-true (h i == m) v (h i) (eq-eqb (h i) m e))
    | inr e ↦ inr (e, cond-false (h i == m) v (h i) (ne_eqb (h i) m e))
  ]

  replaced_between : Between n m (replaced m v h)
  unfolding Split
  replaced_between i l = elim (split i) [
    | inl p ↦ let ne : v ≡ m → ⊥ = λ e. free i l (p.0 ∙ sym e) in elim (cases_eq v m) [ inl e ↦ absurd (ne e) | inr k ↦ omega (arith, p.1) ]
    | inr p ↦ elim (cases_lt (h i) m) [ inl k ↦ omega (arith, p.1) | inr k ↦ absurd (p.0 (omega (arith, b i l))) ]
  ]

  replaced_apart : Apart n (replaced m v h)
  unfolding Split
  replaced_apart i j k l e = elim (split i) [
    | inl p ↦ elim (split j) [
      | inl q ↦ a i j k l (p.0 ∙ sym q.0)
      | inr q ↦ absurd (free j l (sym q.1 ∙ sym e ∙ p.1))
    ]
    | inr p ↦ elim (split j) [
      | inl q ↦ absurd (free i k (sym p.1 ∙ e ∙ q.1))
      | inr q ↦ a i j k l (sym p.1 ∙ e ∙ q.1)
    ]
  ]

pub pigeonhole : (n m : ℕ) (h : ℕ → ℕ) → Between n m h → Apart n h → n ≤ m
pigeonhole zero m h b a = omega arith
pigeonhole (suc n) zero h b a = absurd (omega (arith, b 0 (omega arith)))
pigeonhole (suc n) (suc m) h b a =
    let small = λ (i : ℕ) (l : i < n). b i (omega arith) in
    let apart = λ (i j : ℕ) (k : i < n) (l : j < n). a i j (omega arith) (omega arith) in
    let free = λ (i : ℕ) (l : i < n) (e : h i ≡ h n). absurd {A = ⊥} (omega (arith, a i n (omega arith) (omega arith) e)) in
    let last = b n (omega arith) in
    let le = pigeonhole n m (replaced m (h n) h) (replaced_between n m (h n) h small apart last free) (replaced_apart n m (h n) h small apart last free) in
    omega (arith, le)

-- a number is a value of h below n or it is not
sought : (n : ℕ) (h : ℕ → ℕ) (j : ℕ) → ((i : ℕ) × (i < n) × (h i ≡ j)) ⊎ ((i : ℕ) → i < n → h i ≢ j)
sought zero h j = inr (λ i l e. omega arith)
sought (suc n) h j = elim (cases_eq (h n) j) [
  | inl e ↦ inl (n, omega arith, e)
  | inr ne ↦ elim (sought n h j) [
    | inl p ↦ inl (p.0, omega (arith, p.1), p.2)
    | inr none ↦ inr (λ i l e. elim (cases_eq i n) [
      | inl q ↦ ne (rw q at e)
      | inr q ↦ none i (omega arith) e
    ])
  ]
]

-- a permutation of the numbers below n has each of them as a value
pub onto : (n : ℕ) (h : ℕ → ℕ) → Permutes n h → (j : ℕ) → j < n → (i : ℕ) × (i < n) × (h i ≡ j)
onto zero h p j l = absurd (omega arith)
onto (suc n) h p j l = elim (sought (suc n) h j) [
  | inl found ↦ found
  | inr free ↦
      let le = pigeonhole (suc n) n (replaced n j h) (replaced_between (suc n) n j h p.0 p.1 l free) (replaced_apart (suc n) n j h p.0 p.1 l free) in
      absurd (omega (arith, le))
]

pub joined_permutes : (d : ℕ) (f g : ℕ → ℕ) → Permutes d f → Permutes d g → Permutes d (λ i. g (f i))
joined_permutes d f g p q = ((λ i l. q.0 (f i) (p.0 i l)), λ i j l m e. p.1 i j l m (q.1 (f i) (f j) (p.0 i l) (p.0 j m) e))

-- the inverse undoes h
pub inverse_undoes : (n : ℕ) (h : ℕ → ℕ) → Apart n h → (i : ℕ) → i < n → inverse n h (h i) ≡ i
inverse_undoes zero h a i l = absurd (omega arith)
inverse_undoes (suc n) h a i l = elim (cases_eq (h n) (h i)) [
  | inl e ↦ cond-true (h n == h i) n (inverse n h (h i)) (eq-eqb (h n) (h i) e) ∙ a n i (omega arith) l e
  | inr ne ↦
      let lower : i < n = elim (cases_eq i n) [ inl q ↦ absurd (ne (rw q refl)) | inr q ↦ omega arith ] in
      cond-false (h n == h i) n (inverse n h (h i)) (ne_eqb (h n) (h i) ne)
      ∙ inverse_undoes n h (λ i j k l e. a i j (omega arith) (omega arith) e) i lower
]

module _ (n : ℕ) (h : ℕ → ℕ) (p : Permutes n h) where
  pub undone : (i : ℕ) → i < n → inverse n h (h i) ≡ i
  undone = inverse_undoes n h p.1

  pub inverse_into : Into n (inverse n h)
  inverse_into j l = let o = onto n h p j l in omega (arith, rw o.2 at (undone o.0 o.1), o.1)

  pub redone : (j : ℕ) → j < n → h (inverse n h j) ≡ j
  redone j l = let o = onto n h p j l in
      let e : inverse n h j ≡ o.0 = rw o.2 at (undone o.0 o.1) in rw e o.2

  pub inverse_permutes : Permutes n (inverse n h)
  inverse_permutes = (inverse_into, λ i j k l e. sym (redone i k) ∙ (λ t. h (e t)) ∙ redone j l)
