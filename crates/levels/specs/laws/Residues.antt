-- Residues modulo n, and those of a row of residues times a letter.
use Rattle.std.specs.Prelude.{◌≡◌, ℕ, ◌<◌, ℤ, pos, negsuc, ◌+ℤ◌, ◌*ℤ◌, neg_ℤ}
use Rattle.std.proofs.Common.{sym, ◌∙◌, ap, mod-eq_of_lt, arith}
use Rattle.numbers.specs.Residues.{Cong, residue}
use Rattle.numbers.proofs.Congruence.{residue_same, residue_cong, cong_sym, cong_add, cong_neg}
use Rattle.numbers.proofs.Ring.{solve, ◌⊕◌, ◌⊗◌, ⊖◌, ◌≐◌, con}
use Rattle.modular.proofs.Products.{one_right, zero_right}

module _ (n : ℕ) (h : 0 < n) where
  pub from_cong : {x y : ℤ} → Cong n x y → residue n x ≡ residue n y
  from_cong {x} {y} = (residue_same n x y h).1

  pub to_cong : (x y : ℤ) → residue n x ≡ residue n y → Cong n x y
  to_cong x y = (residue_same n x y h).0

  -- a residue is congruent to what it is the residue of
  pub back : (x : ℤ) → Cong n (pos (residue n x)) x
  back x = cong_sym (residue_cong n x h)

  -- the row x, y times T
  pub t_left : (x y : ℤ) → residue n (pos (residue n x)) ≡ residue n (x *ℤ pos 1 +ℤ y *ℤ pos 0)
  t_left x y = from_cong (back x) ∙ ap (residue n) (sym (one_right x y))

  pub t_right : (x y : ℤ) → residue n (pos (residue n x) +ℤ pos (residue n y)) ≡ residue n (x *ℤ pos 1 +ℤ y *ℤ pos 1)
  t_right x y = from_cong (cong_add (back x) (back y)) ∙ ap (residue n) (solve 2 (λ x y. x ⊕ y ≐ x ⊗ con (pos 1) ⊕ y ⊗ con (pos 1)) tt x y)

  -- the row x, y times S
  pub s_left : (x y : ℤ) → residue n (pos (residue n y)) ≡ residue n (x *ℤ pos 0 +ℤ y *ℤ pos 1)
  s_left x y = from_cong (back y) ∙ ap (residue n) (sym (zero_right x y))

  pub s_right : (x y : ℤ) → residue n (neg_ℤ (pos (residue n x))) ≡ residue n (x *ℤ negsuc 0 +ℤ y *ℤ pos 0)
  s_right x y = from_cong (cong_neg (back x)) ∙ ap (residue n) (solve 2 (λ x y. ⊖ x ≐ x ⊗ con (negsuc 0) ⊕ y ⊗ con (pos 0)) tt x y)

pub residue_small : (n x : ℕ) → x < n → x ≡ residue n (pos x)
residue_small n x h = omega (arith, mod-eq_of_lt h)
