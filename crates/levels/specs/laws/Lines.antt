-- The action on lines keeps the laws of an action.
use Rattle.std.specs.Prelude.{◌≡◌, ℕ, ◌%◌, ◌<◌, ◌≤◌, false, ℤ, pos, ◌+ℤ◌, ◌*ℤ◌, neg_ℤ}
use Rattle.std.proofs.Common.{sym, ◌∙◌, ap, subst, inl, inr, mod-lt, arith}
use Rattle.std.proofs.Math.Nat.{mod-le, zero-mod}
use Rattle.numbers.specs.Gcd.{gcd}
use Rattle.numbers.specs.Residues.{Cong, residue}
use Rattle.numbers.proofs.Congruence.{cong_refl, cong_sym, cong_trans, cong_add, cong_neg, cong_mul, residue_cong, residue_unique}
use Rattle.numbers.proofs.Gcd.{coprime→inverse}
use Rattle.numbers.proofs.Integers.{mul_add, mul_neg, one_mul, mul_zero}
use Rattle.numbers.proofs.Ring.{solve, ◌⊕◌, ◌⊗◌, ◌≐◌}
use Rattle.modular.specs.Actions.{Laws}
use Rattle.modular.specs.Matrix.{M2}
use Rattle.std.proofs.lemmas.Bool.{cases_lt}
use Rattle.levels.specs.declared.vectors.Vector.{Vector}
use Rattle.levels.specs.laws.Least.{is_late, not_earlier_both, scaled_one, coprime_one, least_is, least_scaled}
use Rattle.levels.specs.laws.Models.{Pictures, four_s, three_st}
use Rattle.levels.specs.laws.Residues.{from_cong, back}
use Rattle.levels.specs.laws.Vectors.{same, lower, below, lower_pictures, whole, Combine, sheared_primitive_by, turned_primitive_by, vector_laws_by}
use Rattle.levels.specs.Lines.{scaled, earlier, least, IsLine, sheared, turned}
use Rattle.levels.specs.Vectors as vectors
use Rattle.levels.specs.Vectors.{Primitive, first, alike}

-- the line through the lower row of a matrix
abbrev pub line : ℕ → M2 → Vector
line n x = least n (lower n x)

module _ (n : ℕ) (h : 0 < n) where
  -- the steps of vectors go along with multiples

  -- u times a residue
  pub times : (u : ℕ) (x : ℤ) → Cong n (pos u *ℤ pos (residue n x)) (pos u *ℤ x)
  times u x = cong_mul (cong_refl {x = pos u}) (back n h x)

  sheared_scaled : (u : ℕ) (v : Vector) → vectors.sheared n (scaled n u v) ≡ scaled n u (vectors.sheared n v)
  sheared_scaled u v = same
      (from_cong n h (cong_trans (back n h (pos u *ℤ pos v.c)) (cong_sym (times u (pos v.c)))))
      (from_cong n h (cong_trans (cong_add (back n h (pos u *ℤ pos v.c)) (back n h (pos u *ℤ pos v.d)))
      (subst (λ z. Cong n z (pos u *ℤ pos (residue n (pos v.c +ℤ pos v.d)))) (mul_add (pos u) (pos v.c) (pos v.d))
      (cong_sym (times u (pos v.c +ℤ pos v.d))))))

  turned_scaled : (u : ℕ) (v : Vector) → vectors.turned n (scaled n u v) ≡ scaled n u (vectors.turned n v)
  turned_scaled u v = same
      (from_cong n h (cong_trans (back n h (pos u *ℤ pos v.d)) (cong_sym (times u (pos v.d)))))
      (from_cong n h (cong_trans (cong_neg (back n h (pos u *ℤ pos v.c)))
      (subst (λ z. Cong n z (pos u *ℤ pos (residue n (neg_ℤ (pos v.c))))) (mul_neg (pos u) (pos v.c))
      (cong_sym (times u (neg_ℤ (pos v.c)))))))

  -- a step of vectors may be taken before or after the least multiple
  least_sheared : (v : Vector) → sheared n (least n v) ≡ least n (vectors.sheared n v)
  least_sheared v = let m = (least_is n h v).multiple in
      ap (sheared n) m.2 ∙ ap (least n) (sheared_scaled m.0 v) ∙ least_scaled n h m.0 (vectors.sheared n v) m.1

  least_turned : (v : Vector) → turned n (least n v) ≡ least n (vectors.turned n v)
  least_turned v = let m = (least_is n h v).multiple in
      ap (turned n) m.2 ∙ ap (least n) (turned_scaled m.0 v) ∙ least_scaled n h m.0 (vectors.turned n v) m.1

  pub line_pictures : Pictures (line n) (sheared n) (turned n)
  line_pictures = record {
    t_is = λ x. least_sheared (lower n x) ∙ ap (least n) ((lower_pictures n h).t_is x);
    s_is = λ x. least_turned (lower n x) ∙ ap (least n) ((lower_pictures n h).s_is x);
  }

  pub scaled_primitive_by : Combine n → (u : ℕ) (v : Vector) → gcd u n ≡ 1 → Primitive n v → Primitive n (scaled n u v)
  scaled_primitive_by all u v e p =
      let i = coprime→inverse u n h e in
      let k = all.to_spans v p in
      all.from_spans (pos u *ℤ pos v.c) (pos u *ℤ pos v.d) (record {
        p = pos i.0 *ℤ k.p;
        q = pos i.0 *ℤ k.q;
        one = subst (λ z. Cong n z (pos 1)) (spread (pos u) (pos i.0) k.p k.q (pos v.c) (pos v.d)) (cong_mul i.2 k.one);
      })
    where
      spread : (u i p q c d : ℤ) → (u *ℤ i) *ℤ (p *ℤ c +ℤ q *ℤ d) ≡ (i *ℤ p) *ℤ (u *ℤ c) +ℤ (i *ℤ q) *ℤ (u *ℤ d)
      spread = solve 6 (λ u i p q c d. (u ⊗ i) ⊗ (p ⊗ c ⊕ q ⊗ d) ≐ (i ⊗ p) ⊗ (u ⊗ c) ⊕ (i ⊗ q) ⊗ (u ⊗ d)) tt

  -- the least multiple of a primitive vector is a line
  pub least_line_by : Combine n → (v : Vector) → Primitive n v → IsLine n (least n v)
  least_line_by all v p = let m = (least_is n h v).multiple in record {
    primitive = subst (Primitive n) (sym m.2) (scaled_primitive_by all m.0 v m.1 p);
    own = ap (least n) m.2 ∙ least_scaled n h m.0 v m.1;
  }

  -- a multiple by a number coprime to n is zero only if what it is a multiple of is
  pub coprime_cancels : (u : ℕ) (x : ℤ) → gcd u n ≡ 1 → Cong n (pos u *ℤ x) (pos 0) → Cong n x (pos 0)
  coprime_cancels u x e k =
      let i = coprime→inverse u n h e in
      let undone = subst (λ z. Cong n z x) (swap (pos u) (pos i.0) x) (subst (Cong n _) (one_mul x) (cong_mul i.2 (cong_refl {x = x}))) in
      let nothing = subst (Cong n _) (mul_zero (pos i.0)) (cong_mul (cong_refl {x = pos i.0}) k) in
      cong_trans (cong_sym undone) nothing
    where
      swap : (u i x : ℤ) → (u *ℤ i) *ℤ x ≡ i *ℤ (u *ℤ x)
      swap = solve 3 (λ u i x. (u ⊗ i) ⊗ x ≐ i ⊗ (u ⊗ x)) tt

  -- 0, 1 is a line: no u coprime to n has u·1 below 1
  one_least : (u : ℕ) → gcd u n ≡ 1 → 1 % n ≤ residue n (pos u *ℤ pos (1 % n))
  one_least u e = elim (cases_lt r (1 % n)) [ inl l ↦ absurd (omega (arith, vanishes (omega (arith, mod-le 1 n)))) | inr g ↦ g ]
    where
      r : ℕ
      r = residue n (pos u *ℤ pos (1 % n))

      vanishes : r ≡ 0 → 1 % n ≡ 0
      vanishes z = residue_unique (mod-lt 1 h) h (coprime_cancels u (pos (1 % n)) e
          (subst (λ y. Cong n (pos u *ℤ pos (1 % n)) (pos y)) z (residue_cong n (pos u *ℤ pos (1 % n)) h)))

  pub first_own : least n (first n) ≡ first n
  first_own = not_earlier_both (least n (first n)) (first n) not_before not_after
    where
      not_before : earlier (least n (first n)) (first n) ≡ false
      not_before = let m = (least_is n h (first n)).multiple in
          subst (λ v. earlier v (first n) ≡ false) (sym m.2)
          (is_late (scaled n m.0 (first n)) (first n) (omega (arith, zero-mod n)) (λ _. one_least m.0 m.1))

      not_after : earlier (first n) (least n (first n)) ≡ false
      not_after = subst (λ v. earlier v (least n (first n)) ≡ false)
          (sym (scaled_one n h (first n)) ∙ same (from_cong n h (back n h (pos 0))) (from_cong n h (back n h (pos 1))))
          ((least_is n h (first n)).none_earlier 1 (coprime_one n h))

pub line_laws_by : (n : ℕ) → 0 < n → Combine n → Laws (IsLine n) (first n) (sheared n) (turned n) alike
line_laws_by n h all = record {
  first_point = record { primitive = (vector_laws_by n h all).first_point; own = first_own n h };
  t_point = λ v p. least_line_by n h all (vectors.sheared n v) (sheared_primitive_by n all v p.primitive);
  s_point = λ v p. least_line_by n h all (vectors.turned n v) (turned_primitive_by n all v p.primitive);
  four_s = λ v p. four_s (line_pictures n h) (below v) (drawn v p);
  three_st = λ v p. three_st (line_pictures n h) (below v) (drawn v p);
  agree_same = (vector_laws_by n h all).agree_same;
  same_agree = (vector_laws_by n h all).same_agree;
}
  where
    drawn : (v : Vector) → IsLine n v → v ≡ line n (below v)
    drawn v p = sym p.own ∙ ap (least n) (whole n h v p.primitive)
