-- Where a text is cut in two.
use Rattle.std.proofs.Common.{◌≡◌, ℕ, suc, List, [], ◌∷◌, ◌++◌, refl, arith}
use Rattle.jobs.specs.Bytes.{Lacks}

-- a text with x in it does not lack x
pub lacked : (x : ℕ) (u v : List ℕ) → Lacks x (u ++ x ∷ v) → ⊥
lacked x [] v f = f 0 (omega arith) refl
lacked x (b ∷ u) v f = lacked x u v (λ k h. f (suc k) (omega arith))

-- there is one first x
pub one_split : (x : ℕ) (u w v z : List ℕ) → Lacks x u → Lacks x w → u ++ x ∷ v ≡ w ++ x ∷ z → (u ≡ w) × (v ≡ z)
one_split x [] [] v z f g e = (refl, (cc))
one_split x [] (b ∷ w) v z f g e = let h : b ≡ x = cc in absurd (g 0 (omega arith) h)
one_split x (b ∷ u) [] v z f g e = let h : b ≡ x = cc in absurd (f 0 (omega arith) h)
one_split x (b ∷ u) (c ∷ w) v z f g e =
    let h : b ≡ c = cc in
    let t : u ++ x ∷ v ≡ w ++ x ∷ z = cc in
    let p = one_split x u w v z (λ k l. f (suc k) (omega arith)) (λ k l. g (suc k) (omega arith)) t in
    (λ i. h i ∷ p.0 i, p.1)
