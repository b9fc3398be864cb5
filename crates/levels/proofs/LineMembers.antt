-- The members of the action on lines.
use Rattle.std.proofs.Common.{◌≡◌, ℕ, ◌<◌, ◌↔◌, pos, ◌+ℤ◌, ◌*ℤ◌, sym, ap, ◌∙◌, subst}
use Rattle.numbers.specs.Gcd.{gcd}
use Rattle.numbers.specs.Residues.{Cong, residue}
use Rattle.numbers.proofs.Congruence.{cong_sym, cong_trans, cong_mul, residue_cong}
use Rattle.numbers.proofs.Gcd.{inverse→coprime}
use Rattle.numbers.proofs.Integers.{mul_one, mul_zero}
use Rattle.numbers.proofs.Ring.{solve, ◌⊕◌, ◌⊗◌, ◌⊝◌, ◌≐◌, con}
use Rattle.modular.specs.Actions.{Member}
use Rattle.modular.specs.Matrix.{M2, det, identity}
use Rattle.levels.specs.Levels.{IsLevel}
use Rattle.levels.specs.Lines.{LinesAt, IsLine, scaled, least, sheared, turned}
use Rattle.levels.specs.Vectors.{first}
use Rattle.levels.specs.laws.Least.{least_is, least_scaled}
use Rattle.levels.specs.laws.Lines.{line, line_pictures, coprime_cancels, times, first_own}
use Rattle.levels.specs.laws.Residues.{from_cong, to_cong, back}
use Rattle.levels.specs.laws.Vectors.{same, lower}
use Rattle.levels.proofs.Members.{member_is, acts}

module _ (n : ℕ) (h : 0 < n) (x : M2) where
  -- the line is a multiple of the lower row, and its first entry is 0
  line→cong : line n x ≡ line n identity → Cong n x.c (pos 0)
  line→cong e = let m = (least_is n h (lower n x)).multiple in
      cong_trans (residue_cong n x.c h) (coprime_cancels n h m.0 (pos (residue n x.c)) m.1
      (to_cong n h (pos m.0 *ℤ pos (residue n x.c)) (pos 0) (ap (λ v. v.c) (sym m.2 ∙ e ∙ first_own n h))))

  module _ (o : det x ≡ pos 1) (k : Cong n x.c (pos 0)) where
    -- where c is 0, a and d are inverse to one another
    inverse : Cong n (x.d *ℤ x.a) (pos 1)
    inverse = record {
      factor = x.b *ℤ k.factor;
      apart = solve 4 (λ a b c d. d ⊗ a ≐ a ⊗ d ⊝ b ⊗ c ⊕ b ⊗ c) tt x.a x.b x.c x.d
          ∙ (λ i. o i +ℤ x.b *ℤ k.apart i)
          ∙ solve 3 (λ b f n. con (pos 1) ⊕ b ⊗ (con (pos 0) ⊕ f ⊗ n) ≐ con (pos 1) ⊕ b ⊗ f ⊗ n) tt x.b k.factor (pos n);
    }

    -- so that the lower row is the multiple of 0, 1 by d
    cong→line : line n x ≡ line n identity
    cong→line = ap (least n) multiple ∙ least_scaled n h d (first n) coprime
      where
        d : ℕ
        d = residue n x.d

        coprime : gcd d n ≡ 1
        coprime = inverse→coprime d n (residue n x.a) (cong_trans (cong_mul (back n h x.d) (back n h x.a)) inverse)

        multiple : lower n x ≡ scaled n d (first n)
        multiple = same
            (from_cong n h (cong_trans k (cong_sym (subst (Cong n _) (mul_zero (pos d)) (times n h d (pos 0))))))
            (from_cong n h (cong_trans (residue_cong n x.d h) (cong_sym (subst (Cong n _) (mul_one (pos d)) (times n h d (pos 1))))))

pub lines_at : (n : ℕ) → IsLevel n → LinesAt n (IsLine n) (first n) (sheared n) (turned n)
lines_at n l = (l, least_is n l.0, acts (IsLine n) (first n) (sheared n) (turned n) (λ x. Cong n x.c (pos 0)) members)
  where
    members : (x : M2) → det x ≡ pos 1 → Member (first n) (sheared n) (turned n) x ↔ Cong n x.c (pos 0)
    members x e = let h = l.0 in let k = member_is (line_pictures n h) x e in
        subst (λ v. Member v (sheared n) (turned n) x ↔ Cong n x.c (pos 0)) (first_own n h)
        (λ w. line→cong n h x (k.0 w), λ c. k.1 (cong→line n h x e c))
