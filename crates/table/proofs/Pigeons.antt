-- More numbers than places: two numbers share a place.
use Rattle.std.proofs.Common.{◌≡◌, ℕ, zero, suc, ◌<◌, ◌≤◌, cond, eqb, ◌⊎◌, sym, ap, ◌∙◌, inl, inr, arith, eq-eqb, ne_eqb}
use native.Mathlib.Decide.{dec_le, ℕ_discrete}

-- a number up to n that f sends to x, or none
sought : (f : ℕ → ℕ) (x n : ℕ) → ((i : ℕ) × (i ≤ n) × (f i ≡ x)) ⊎ ((i : ℕ) → i ≤ n → f i ≡ x → ⊥)
sought f x zero = elim (ℕ_discrete (f 0) x) [
  | yes e ↦ inl (0, omega arith, e)
  | no d ↦ inr (λ i h e. let z : i ≡ 0 = omega arith in d (sym (ap f z) ∙ e))
]
sought f x (suc n) = elim (ℕ_discrete (f (suc n)) x) [
  | yes e ↦ inl (suc n, omega arith, e)
  | no d ↦ elim (sought f x n) [
    | inl p ↦ inl (p.0, omega arith, p.2)
    | inr q ↦ inr (λ i h e. elim (dec_le i n) [ yes l ↦ q i l e | no l ↦ let z : i ≡ suc n = omega arith in d (sym (ap f z) ∙ e) ])
  ]
]

-- f with the place n handed on to that of the last number
handed : (f : ℕ → ℕ) (n i : ℕ) → ℕ
handed f n i = cond (eqb (f i) n) (f (suc n)) (f i)

handed_at : (f : ℕ → ℕ) (n i : ℕ) → f i ≡ n → handed f n i ≡ f (suc n)
unfolding handed
handed_at f n i e = ap (λ b. cond b (f (suc n)) (f i)) (eq-eqb (f i) n e)

handed_off : (f : ℕ → ℕ) (n i : ℕ) → (f i ≡ n → ⊥) → handed f n i ≡ f i
unfolding handed
handed_off f n i e = ap (λ b. cond b (f (suc n)) (f i)) (ne_eqb (f i) n e)

pub record Share (f : ℕ → ℕ) (n : ℕ) : Type 0 where
  pub i : ℕ
  pub j : ℕ
  pub apart : i < j
  pub within : j ≤ n
  pub same : f i ≡ f j

pub shared : (n : ℕ) (f : ℕ → ℕ) → ((i : ℕ) → i ≤ n → f i < n) → Share f n
shared zero f h = let a = h 0 (omega arith) in absurd (omega arith)
shared (suc n) f h = elim (sought f (f (suc n)) n) [
  | inl p ↦ record { i = p.0; j = suc n; apart = omega arith; within = omega arith; same = p.2 }
  | inr q ↦ lifted q (shared n (handed f n) (λ i l. small q i l))
]
  where
    small : ((i : ℕ) → i ≤ n → f i ≡ f (suc n) → ⊥) → (i : ℕ) → i ≤ n → handed f n i < n
    small q i l = elim (ℕ_discrete (f i) n) [
      | yes e ↦
          let a = h (suc n) (omega arith) in
          let b = handed_at f n i e in
          elim (ℕ_discrete (f (suc n)) n) [ yes d ↦ absurd (q i l (e ∙ sym d)) | no d ↦ omega arith ]
      | no e ↦ let a = h i (omega arith) in let b = handed_off f n i e in omega arith
    ]

    lifted : ((i : ℕ) → i ≤ n → f i ≡ f (suc n) → ⊥) → Share (handed f n) n → Share f (suc n)
    lifted q s = record {
      i = s.i;
      j = s.j;
      apart = s.apart;
      within = omega (arith, s.within);
      same = elim (ℕ_discrete (f s.i) n) [
        | yes a ↦ elim (ℕ_discrete (f s.j) n) [
          | yes b ↦ a ∙ sym b
          | no b ↦ absurd (q s.j s.within (sym (handed_off f n s.j b) ∙ sym s.same ∙ handed_at f n s.i a))
        ]
        | no a ↦ elim (ℕ_discrete (f s.j) n) [
          | yes b ↦ absurd (q s.i (omega (arith, s.apart, s.within)) (sym (handed_off f n s.i a) ∙ s.same ∙ handed_at f n s.j b))
          | no b ↦ sym (handed_off f n s.i a) ∙ s.same ∙ handed_off f n s.j b
        ]
      ];
    }
