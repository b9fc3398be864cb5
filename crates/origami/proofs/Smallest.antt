-- The loop over all squares for the smallest reading.
use Rattle.std.proofs.Common.{◌≡◌, ℕ, zero, suc, ◌+◌, ◌-◌, ◌≤◌, sym, refl, ap, ◌∙◌, arith}
use Rattle.std.proofs.lemmas.Bool.{cond_both}
use Rattle.origami.specs.declared.gluing.Gluing.{Gluing}
use Rattle.origami.specs.Forms.{reading, earlier, better, smallest, least}

pub smallest_more : (g : Gluing) (k : ℕ) → 1 ≤ k → better (reading g k) (smallest g (k - 1)) ≡ smallest g (k + 1 - 1)
smallest_more g zero l = absurd (omega arith)
smallest_more g (suc m) l =
    let p : suc m - 1 ≡ m = omega arith in
    let q : suc m + 1 - 1 ≡ suc m = omega arith in
    ap (λ n. better (reading g (suc m)) (smallest g n)) p ∙ sym (ap (smallest g) q)

-- all readings have the degree of the gluing, and so has the smallest
pub smallest_degree : (g : Gluing) (n : ℕ) → (smallest g n).degree ≡ g.degree
unfolding reading
smallest_degree g zero = refl
smallest_degree g (suc n) =
    cond_both (earlier (reading g (suc n)) (smallest g n)) (reading g (suc n)) (smallest g n) (λ k. k.degree ≡ g.degree) (λ _. refl) (λ _. smallest_degree g n)

pub reading_degree : (g : Gluing) (x : ℕ) → (reading g x).degree ≡ g.degree
unfolding reading
reading_degree g x = refl

pub smallest_all : (g : Gluing) (k : ℕ) → k ≡ g.degree → smallest g (k - 1) ≡ least g
unfolding least
smallest_all g k e = ap (smallest g) (omega arith)
