-- Congruence modulo n is an equivalence that sums, negations and products respect, and for n > 0 it is equality of residues.
use Rattle.std.proofs.Common.{◌≡◌, ℕ, zero, suc, ◌/◌, ◌<◌, ◌↔◌, ℤ, pos, negsuc, ◌+ℤ◌, ◌*ℤ◌, neg_ℤ, sym, refl, ap, mod-lt, arith}
use native.Mathlib.Nat.{mod-add-div'}
use borrow.Author.Differences.{ints, up}
use Rattle.std.specs.Int.{int_rem_euclid}
use Rattle.numbers.specs.Residues.{Cong, residue}
use Rattle.numbers.proofs.Ring.{solve, ◌⊕◌, ◌⊗◌, ⊖◌, ◌≐◌, con}

pub cong_refl : {n : ℕ} {x : ℤ} → Cong n x x
cong_refl {n} {x} = record { factor = pos 0; apart = solve 2 (λ x n. x ≐ x ⊕ con (pos 0) ⊗ n) tt x (pos n) }

pub cong_sym : {n : ℕ} {x y : ℤ} → Cong n x y → Cong n y x
cong_sym {n} {x} {y} c = record {
  factor = neg_ℤ c.factor;
  apart = rw c.apart (solve 3 (λ y k n. y ≐ y ⊕ k ⊗ n ⊕ ⊖ k ⊗ n) tt y c.factor (pos n));
}

pub cong_trans : {n : ℕ} {x y z : ℤ} → Cong n x y → Cong n y z → Cong n x z
cong_trans {n} {x} {y} {z} c d = record {
  factor = c.factor +ℤ d.factor;
  apart = rw (c.apart, d.apart) (solve 4 (λ z k l n. z ⊕ l ⊗ n ⊕ k ⊗ n ≐ z ⊕ (k ⊕ l) ⊗ n) tt z c.factor d.factor (pos n));
}

pub cong_add : {n : ℕ} {x y u v : ℤ} → Cong n x y → Cong n u v → Cong n (x +ℤ u) (y +ℤ v)
cong_add {n} {x} {y} {u} {v} c d = record {
  factor = c.factor +ℤ d.factor;
  apart = rw (c.apart, d.apart) (solve 5 (λ y v k l n. y ⊕ k ⊗ n ⊕ (v ⊕ l ⊗ n) ≐ y ⊕ v ⊕ (k ⊕ l) ⊗ n) tt y v c.factor d.factor (pos n));
}

pub cong_neg : {n : ℕ} {x y : ℤ} → Cong n x y → Cong n (neg_ℤ x) (neg_ℤ y)
cong_neg {n} {x} {y} c = record {
  factor = neg_ℤ c.factor;
  apart = rw c.apart (solve 3 (λ y k n. ⊖ (y ⊕ k ⊗ n) ≐ ⊖ y ⊕ ⊖ k ⊗ n) tt y c.factor (pos n));
}

pub cong_mul : {n : ℕ} {x y u v : ℤ} → Cong n x y → Cong n u v → Cong n (x *ℤ u) (y *ℤ v)
cong_mul {n} {x} {y} {u} {v} c d = record {
  factor = c.factor *ℤ v +ℤ (y +ℤ c.factor *ℤ pos n) *ℤ d.factor;
  apart = rw (c.apart, d.apart) (solve 5 (λ y v k l n. (y ⊕ k ⊗ n) ⊗ (v ⊕ l ⊗ n) ≐ y ⊗ v ⊕ (k ⊗ v ⊕ (y ⊕ k ⊗ n) ⊗ l) ⊗ n) tt y v c.factor d.factor (pos n));
}

pub residue_below : (n : ℕ) (z : ℤ) → 0 < n → residue n z < n
residue_below n (pos a) h = mod-lt a h
residue_below n (negsuc a) h = omega arith

pub residue_cong : (n : ℕ) (z : ℤ) → 0 < n → Cong n z (pos (residue n z))
residue_cong n (pos a) h = record { factor = pos (a / n); apart = ap pos (sym (mod-add-div' a n)) }
residue_cong n (negsuc a) h = record { factor = negsuc (a / n); apart = omega (arith, ints, mod-lt a h, mod-add-div' a n) }

-- what `rem_euclid` gives
pub residue_rem : (n : ℕ) (z : ℤ) → int_rem_euclid z (pos n) ≡ pos (residue n z)
residue_rem n (pos a) = refl
residue_rem n (negsuc a) = refl

-- two numbers below n that are congruent are equal
pub residue_unique : {n r s : ℕ} → r < n → s < n → Cong n (pos r) (pos s) → r ≡ s
residue_unique {n} {r} {s} h k c = go c.factor c.apart
  where
    go : (q : ℤ) → pos r ≡ pos s +ℤ q *ℤ pos n → r ≡ s
    go (pos zero) e = omega (arith, ap up e)
    go (pos (suc q)) e = omega (arith, ap up e)
    go (negsuc q) e = omega (arith, ints, e)

pub residue_same : (n : ℕ) (x y : ℤ) → 0 < n → (residue n x ≡ residue n y) ↔ Cong n x y
residue_same n x y h = (there, back)
  where
    there : residue n x ≡ residue n y → Cong n x y
    there e = cong_trans (residue_cong n x h) (rw e (cong_sym (residue_cong n y h)))

    back : Cong n x y → residue n x ≡ residue n y
    back c = residue_unique (residue_below n x h) (residue_below n y h)
        (cong_trans (cong_sym (residue_cong n x h)) (cong_trans c (residue_cong n y h)))
