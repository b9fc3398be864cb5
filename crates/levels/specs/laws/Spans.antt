-- gcd(c, d, n) is 1 exactly when some combination of c and d is 1 modulo n.
use Rattle.std.specs.Prelude.{◌≡◌, ℕ, ◌<◌, ℤ, pos, ◌+ℤ◌, ◌*ℤ◌}
use Rattle.std.proofs.Common.{sym, ◌∙◌}
use Rattle.numbers.specs.Gcd.{gcd}
use Rattle.numbers.specs.Residues.{Cong, residue}
use Rattle.numbers.proofs.Congruence.{cong_refl, cong_sym, cong_trans, cong_add, cong_mul, residue_cong}
use Rattle.numbers.proofs.Gcd.{gcd_divides, bezout, coprime→inverse, inverse→coprime}
use Rattle.numbers.proofs.Ring.{solve, ◌⊕◌, ◌⊗◌, ◌≐◌}

-- a combination of x and y is 1
pub record Spans (n : ℕ) (x y : ℤ) : Type 0 where
  pub p : ℤ
  pub q : ℤ
  pub one : Cong n (p *ℤ x +ℤ q *ℤ y) (pos 1)

pub spans_cong : {n : ℕ} {x y u v : ℤ} → Cong n x u → Cong n y v → Spans n x y → Spans n u v
spans_cong a b k = record {
  p = k.p;
  q = k.q;
  one = cong_trans (cong_sym (cong_add (cong_mul (cong_refl {x = k.p}) a) (cong_mul (cong_refl {x = k.q}) b))) k.one;
}

combined : (p q u v g : ℤ) → p *ℤ (u *ℤ g) +ℤ q *ℤ (v *ℤ g) ≡ g *ℤ (p *ℤ u +ℤ q *ℤ v)
combined = solve 5 (λ p q u v g. p ⊗ (u ⊗ g) ⊕ q ⊗ (v ⊗ g) ≐ g ⊗ (p ⊗ u ⊕ q ⊗ v)) tt

spread : (x y c d b : ℤ) → (x *ℤ b) *ℤ c +ℤ (y *ℤ b) *ℤ d ≡ (x *ℤ c +ℤ y *ℤ d) *ℤ b
spread = solve 5 (λ x y c d b. (x ⊗ b) ⊗ c ⊕ (y ⊗ b) ⊗ d ≐ (x ⊗ c ⊕ y ⊗ d) ⊗ b) tt

module _ (n : ℕ) (h : 0 < n) (c d : ℕ) where
  pub coprime→spans : gcd (gcd c d) n ≡ 1 → Spans n (pos c) (pos d)
  coprime→spans e =
      let g = bezout c d in
      let i = coprime→inverse (gcd c d) n h e in
      record {
        p = g.0 *ℤ pos i.0;
        q = g.1 *ℤ pos i.0;
        one = rw (spread g.0 g.1 (pos c) (pos d) (pos i.0), ← g.2) i.2;
      }

  pub spans→coprime : Spans n (pos c) (pos d) → gcd (gcd c d) n ≡ 1
  spans→coprime k = inverse→coprime g n (residue n z)
      (cong_trans (cong_mul (cong_refl {x = pos g}) (cong_sym (residue_cong n z h))) (rw (sym together) k.one))
    where
      g : ℕ
      g = gcd c d

      z : ℤ
      z = k.p *ℤ pos (gcd_divides c d).0.quotient +ℤ k.q *ℤ pos (gcd_divides c d).1.quotient

      together : k.p *ℤ pos c +ℤ k.q *ℤ pos d ≡ pos g *ℤ z
      together = cc ((gcd_divides c d).0.exact, (gcd_divides c d).1.exact)
          ∙ combined k.p k.q (pos (gcd_divides c d).0.quotient) (pos (gcd_divides c d).1.quotient) (pos g)
