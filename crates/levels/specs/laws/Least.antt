-- The least multiple is what its name says, and vectors that are multiples of one another have the same.
use Rattle.std.specs.Prelude.{◌≡◌, ℕ, zero, suc, ◌*◌, ◌%◌, ◌<◌, ◌≤◌, Bool, true, false, cond, ◌&&◌, ℤ, pos, ◌*ℤ◌, refl}
use Rattle.std.proofs.Common.{sym, ◌∙◌, ap, subst, inl, inr, mod-lt, arith}
use Rattle.std.proofs.Math.IntN.{*ℤ_comm}
use Rattle.numbers.specs.Gcd.{gcd}
use Rattle.numbers.specs.Residues.{Cong, residue}
use Rattle.numbers.proofs.Congruence.{cong_refl, cong_trans, cong_mul}
use Rattle.numbers.proofs.Gcd.{coprime→inverse, inverse→coprime}
use Rattle.numbers.proofs.Integers.{mul_assoc, one_mul, mul_one}
use Rattle.numbers.proofs.Ring.{solve, ◌⊗◌, ◌≐◌}
use Rattle.std.proofs.lemmas.Bool.{ltb-false, ltb-true, le-ltb, eqb-true, eqb-false, eq-eqb, ne_eqb, cases_eq, cases_lt, both_ways, and_parts, and_cases, and_left, and_right, or_parts, or_from, or_cases, cond_both}
use Rattle.levels.specs.declared.vectors.Vector.{Vector}
use Rattle.levels.specs.laws.Residues.{from_cong, back}
use Rattle.levels.specs.laws.Vectors.{same}
use Rattle.levels.specs.Lines.{scaled, coprime, earlier, least_below, least, IsLeast}
use Rattle.levels.specs.Vectors.{vector}

-- the order by c and then by d

late : (v w : Vector) → earlier v w ≡ false → (w.c ≤ v.c) × (v.c ≡ w.c → w.d ≤ v.d)
late v w e =
    let p = or_parts _ _ e in (
      ltb-false v.c w.c p.0,
      λ q. elim (and_cases _ _ p.1) [ inl a ↦ absurd (eqb-false v.c w.c a q) | inr a ↦ ltb-false v.d w.d a ],
    )

pub is_late : (v w : Vector) → w.c ≤ v.c → (v.c ≡ w.c → w.d ≤ v.d) → earlier v w ≡ false
is_late v w h k = or_from _ _ (le-ltb v.c w.c h)
    (elim (cases_eq v.c w.c) [
      | inl q ↦ and_right _ _ (le-ltb v.d w.d (k q))
      | inr n ↦ and_left _ _ (ne_eqb v.c w.c n)
    ])

soon : (v w : Vector) → earlier v w ≡ true → (v.c ≤ w.c) × (v.c ≡ w.c → v.d < w.d)
soon v w e = elim (or_cases _ _ e) [
  | inl a ↦ let l = ltb-true v.c w.c a in (omega arith, λ q. absurd (omega arith))
  | inr a ↦ let p = and_parts _ _ a in let q = eqb-true v.c w.c p.0 in (omega arith, λ _. ltb-true v.d w.d p.1)
]

not_earlier_self : (v : Vector) → earlier v v ≡ false
not_earlier_self v = is_late v v (omega arith) (λ _. omega arith)

-- what is not earlier than b is not earlier than what comes before b
not_earlier_than : (x m b : Vector) → earlier m b ≡ true → earlier x b ≡ false → earlier x m ≡ false
not_earlier_than x m b s l =
    let p = soon m b s in
    let q = late x b l in
    is_late x m (omega arith) (λ e. let u : m.c ≡ b.c = omega arith in let w : x.c ≡ b.c = omega arith in omega (arith, p.1 u, q.1 w))

pub not_earlier_both : (v w : Vector) → earlier v w ≡ false → earlier w v ≡ false → v ≡ w
not_earlier_both v w l k =
    let p = late v w l in
    let q = late w v k in
    let e : v.c ≡ w.c = omega arith in
    let f : w.c ≡ v.c = omega arith in
    same e (omega (arith, p.1 e, q.1 f))

-- after a multiple is tried, nothing that was tried comes before the best
still : (x m b : Vector) (c : Bool) → earlier x b ≡ false → earlier x (cond (earlier m b && c) m b) ≡ false
still x m b c e = cond_both (earlier m b && c) m b (λ r. earlier x r ≡ false) (λ t. not_earlier_than x m b (and_parts _ _ t).0 e) (λ _. e)

tried : (m b : Vector) (c : Bool) → c ≡ true → earlier m (cond (earlier m b && c) m b) ≡ false
tried m b c q = cond_both (earlier m b && c) m b (λ r. earlier m r ≡ false) (λ _. not_earlier_self m)
    (λ t. elim (and_cases _ _ t) [ inl p ↦ p | inr p ↦ absurd (both_ways c p q) ])

regroup : (a b u i : ℤ) → (a *ℤ b) *ℤ (u *ℤ i) ≡ (a *ℤ u) *ℤ (b *ℤ i)
regroup = solve 4 (λ a b u i. (a ⊗ b) ⊗ (u ⊗ i) ≐ (a ⊗ u) ⊗ (b ⊗ i)) tt

turn_about : (a u i : ℤ) → a *ℤ (u *ℤ i) ≡ (a *ℤ i) *ℤ u
turn_about = solve 3 (λ a u i. a ⊗ (u ⊗ i) ≐ (a ⊗ i) ⊗ u) tt

module _ (n : ℕ) (h : 0 < n) where
  -- multiples of multiples

  pub scaled_one : (v : Vector) → vector n (pos v.c) (pos v.d) ≡ scaled n 1 v
  scaled_one v = same (ap (residue n) (sym (one_mul (pos v.c)))) (ap (residue n) (sym (one_mul (pos v.d))))

  scaled_cong : {a b : ℕ} (v : Vector) → Cong n (pos a) (pos b) → scaled n a v ≡ scaled n b v
  scaled_cong v k = same (from_cong n h (cong_mul k (cong_refl {x = pos v.c}))) (from_cong n h (cong_mul k (cong_refl {x = pos v.d})))

  scaled_twice : (a u : ℕ) (v : Vector) → scaled n a (scaled n u v) ≡ scaled n (a * u) v
  scaled_twice a u v = same (twice v.c) (twice v.d)
    where
      twice : (x : ℕ) → residue n (pos a *ℤ pos (residue n (pos u *ℤ pos x))) ≡ residue n (pos (a * u) *ℤ pos x)
      twice x = from_cong n h (cong_mul (cong_refl {x = pos a}) (back n h (pos u *ℤ pos x)))
          ∙ ap (residue n) (sym (mul_assoc (pos a) (pos u) (pos x)))

  pub coprime_one : gcd 1 n ≡ 1
  coprime_one = inverse→coprime 1 n 1 cong_refl

  coprime_product : (a u : ℕ) → gcd a n ≡ 1 → gcd u n ≡ 1 → gcd (a * u) n ≡ 1
  coprime_product a u p q =
      let i = coprime→inverse a n h p in
      let j = coprime→inverse u n h q in
      inverse→coprime (a * u) n (i.0 * j.0)
      (subst (λ z. Cong n z (pos 1)) (regroup (pos a) (pos i.0) (pos u) (pos j.0)) (cong_mul i.2 j.2))

  coprime_residue : (u : ℕ) → gcd u n ≡ 1 → gcd (u % n) n ≡ 1
  coprime_residue u p = let i = coprime→inverse u n h p in
      inverse→coprime (u % n) n i.0 (cong_trans (cong_mul (back n h (pos u)) (cong_refl {x = pos i.0})) i.2)

  -- the least multiple

  is_multiple : (v : Vector) (k : ℕ) → (u : ℕ) × (gcd u n ≡ 1) × (least_below n k v ≡ scaled n u v)
  is_multiple v zero = (1, coprime_one, scaled_one v)
  is_multiple v (suc k) =
      cond_both (earlier (scaled n k v) (least_below n k v) && coprime n k) (scaled n k v) (least_below n k v)
      (λ r. (u : ℕ) × (gcd u n ≡ 1) × (r ≡ scaled n u v))
      (λ t. (k, eqb-true (gcd k n) 1 (and_parts _ _ t).1, refl)) (λ _. is_multiple v k)

  none_below : (v : Vector) (k u : ℕ) → u < k → gcd u n ≡ 1 → earlier (scaled n u v) (least_below n k v) ≡ false
  none_below v zero u l e = absurd (omega arith)
  none_below v (suc k) u l e = elim (cases_lt u k) [
    | inl b ↦ still (scaled n u v) (scaled n k v) (least_below n k v) (coprime n k) (none_below v k u b e)
    | inr g ↦
        let q : u ≡ k = omega arith in
        rw q (tried (scaled n k v) (least_below n k v) (coprime n k) (eq-eqb (gcd k n) 1 (ap (λ x. gcd x n) (sym q) ∙ e)))
  ]

  pub least_is : (v : Vector) → IsLeast n v (least n v)
  least_is v = record {
    multiple = is_multiple v n;
    none_earlier = λ u e. subst (λ m. earlier m (least n v) ≡ false) (scaled_cong v (back n h (pos u)))
        (none_below v n (u % n) (mod-lt u h) (coprime_residue u e));
  }

  -- a multiple of a multiple of v does not come before the least multiple of v
  after_least : (v : Vector) (a u : ℕ) → gcd a n ≡ 1 → gcd u n ≡ 1 → earlier (scaled n a (scaled n u v)) (least n v) ≡ false
  after_least v a u p q =
      subst (λ m. earlier m (least n v) ≡ false) (sym (scaled_twice a u v)) ((least_is v).none_earlier (a * u) (coprime_product a u p q))

  -- a multiple of v by a is one of u·v
  back_again : (a u i : ℕ) (v : Vector) → Cong n (pos u *ℤ pos i) (pos 1) → scaled n a v ≡ scaled n (a * i) (scaled n u v)
  back_again a u i v k = sym (scaled_twice (a * i) u v ∙ scaled_cong v undone)
    where
      undone : Cong n (pos (a * i * u)) (pos a)
      undone = subst (λ z. Cong n (pos (a * i * u)) z) (mul_one (pos a))
          (subst (λ z. Cong n z (pos a *ℤ pos 1)) (turn_about (pos a) (pos u) (pos i)) (cong_mul (cong_refl {x = pos a}) k))

  pub least_scaled : (u : ℕ) (v : Vector) → gcd u n ≡ 1 → least n (scaled n u v) ≡ least n v
  least_scaled u v e = not_earlier_both (least n w) (least n v) not_before not_after
    where
      w : Vector
      w = scaled n u v

      not_before : earlier (least n w) (least n v) ≡ false
      not_before = let m = is_multiple w n in
          subst (λ x. earlier x (least n v) ≡ false) (sym m.2) (after_least v m.0 u m.1 e)

      not_after : earlier (least n v) (least n w) ≡ false
      not_after =
          let m = is_multiple v n in
          let i = coprime→inverse u n h e in
          let j = inverse→coprime i.0 n u (subst (λ z. Cong n z (pos 1)) (*ℤ_comm (pos u) (pos i.0)) i.2) in
          subst (λ x. earlier x (least n w) ≡ false) (sym (m.2 ∙ back_again m.0 u i.0 v i.2))
          ((least_is w).none_earlier (m.0 * i.0) (coprime_product m.0 i.0 m.1 j))
