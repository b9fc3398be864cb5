-- The action on vectors keeps the laws of an action.
-- What rests on which vectors are primitive takes that as a premise, Combine, so that a wrong definition of them is refused at
-- `combine` alone. With no premise these theorems stand in proofs/Primitives.
use Rattle.std.specs.Prelude.{◌≡◌, ℕ, ◌<◌, ℤ, pos, ◌+ℤ◌, ◌-ℤ◌, neg_ℤ}
use Rattle.std.proofs.Common.{ap}
use Rattle.numbers.specs.Residues.{residue}
use Rattle.numbers.proofs.Congruence.{cong_refl, residue_below, residue_cong}
use Rattle.numbers.proofs.Ring.{solve, ◌⊕◌, ◌⊗◌, ◌⊝◌, ⊖◌, ◌≐◌}
use Rattle.modular.specs.Actions.{Laws}
use Rattle.modular.specs.Matrix.{M2}
use Rattle.std.proofs.lemmas.Bool.{eqb-true, eq-eqb, and_parts, and_from}
use Rattle.levels.specs.declared.vectors.Vector.{Vector}
use Rattle.levels.specs.laws.Models.{Pictures, four_s, three_st}
use Rattle.levels.specs.laws.Residues.{t_left, t_right, s_left, s_right, residue_small}
use Rattle.levels.specs.laws.Spans.{Spans, spans_cong, coprime→spans, spans→coprime}
use Rattle.levels.specs.Vectors.{vector, Primitive, first, sheared, turned, alike}

-- two vectors with equal entries are equal
pub same : {v w : Vector} → v.c ≡ w.c → v.d ≡ w.d → v ≡ w
same p q = λ i. record { c = p i; d = q i }

-- the lower row of a matrix
abbrev pub lower : ℕ → M2 → Vector
lower n x = vector n x.c x.d

-- a matrix with the lower row v
abbrev pub below : Vector → M2
below v = record { a = pos 0; b = pos 0; c = pos v.c; d = pos v.d }

-- the primitive vectors are those whose entries combine to 1
pub record Combine (n : ℕ) : Type 0 where
  pub from_spans : (x y : ℤ) → Spans n x y → Primitive n (vector n x y)
  pub to_spans : (v : Vector) → Primitive n v → Spans n (pos v.c) (pos v.d)

pub combine : (n : ℕ) → 0 < n → Combine n
combine n h = record {
  from_spans = λ x y k. record {
    c_below = residue_below n x h;
    d_below = residue_below n y h;
    coprime = spans→coprime n h (residue n x) (residue n y) (spans_cong (residue_cong n x h) (residue_cong n y h) k);
  };
  to_spans = λ v p. coprime→spans n h v.c v.d p.coprime;
}

module _ (n : ℕ) (h : 0 < n) where
  pub lower_pictures : Pictures (lower n) (sheared n) (turned n)
  lower_pictures = record {
    t_is = λ x. same (t_left n h x.c x.d) (t_right n h x.c x.d);
    s_is = λ x. same (s_left n h x.c x.d) (s_right n h x.c x.d);
  }

  -- a vector of residues is the lower row of some matrix
  pub whole : (v : Vector) → Primitive n v → v ≡ lower n (below v)
  whole v p = same (residue_small n v.c p.c_below) (residue_small n v.d p.d_below)

module _ (n : ℕ) (all : Combine n) where
  pub sheared_primitive_by : (v : Vector) → Primitive n v → Primitive n (sheared n v)
  sheared_primitive_by v p = let k = all.to_spans v p in
      all.from_spans (pos v.c) (pos v.c +ℤ pos v.d) (record {
        p = k.p -ℤ k.q;
        q = k.q;
        one = rw (solve 4 (λ p q c d. (p ⊝ q) ⊗ c ⊕ q ⊗ (c ⊕ d) ≐ p ⊗ c ⊕ q ⊗ d) tt k.p k.q (pos v.c) (pos v.d)) k.one;
      })

  pub turned_primitive_by : (v : Vector) → Primitive n v → Primitive n (turned n v)
  turned_primitive_by v p = let k = all.to_spans v p in
      all.from_spans (pos v.d) (neg_ℤ (pos v.c)) (record {
        p = k.q;
        q = neg_ℤ k.p;
        one = rw (solve 4 (λ p q c d. q ⊗ d ⊕ ⊖ p ⊗ ⊖ c ≐ p ⊗ c ⊕ q ⊗ d) tt k.p k.q (pos v.c) (pos v.d)) k.one;
      })

pub vector_laws_by : (n : ℕ) → 0 < n → Combine n → Laws (Primitive n) (first n) (sheared n) (turned n) alike
vector_laws_by n h all = record {
  first_point = all.from_spans (pos 0) (pos 1) (record { p = pos 0; q = pos 1; one = cong_refl });
  t_point = sheared_primitive_by n all;
  s_point = turned_primitive_by n all;
  four_s = λ v p. four_s (lower_pictures n h) (below v) (whole n h v p);
  three_st = λ v p. three_st (lower_pictures n h) (below v) (whole n h v p);
  agree_same = λ v w e. let p = and_parts _ _ e in same (eqb-true v.c w.c p.0) (eqb-true v.d w.d p.1);
  same_agree = λ v w e. and_from _ _ (eq-eqb v.c w.c (ap (λ x. x.c) e)) (eq-eqb v.d w.d (ap (λ x. x.d) e));
}
