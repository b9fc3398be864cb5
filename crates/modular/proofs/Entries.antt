-- An array of rows, entry by entry.
use Rattle.std.proofs.Common.{◌≡◌, List, [], ◌∷◌, ℤ, ap, ◌∙◌, to_z-of_z, w64, SFits, to_z, of_z}
use Rattle.modular.specs.Matrix.{M2, Fits, rows}

-- a number that fits is what is read back of it
back : (a v : ℤ) → a ≡ v → SFits w64 v → to_z w64 (of_z w64 a) ≡ v
back a v e f = ap (λ x. to_z w64 (of_z w64 x)) e ∙ to_z-of_z f

-- four numbers that are a matrix's entries make its array
pub made_rows : (x : M2) (a b c d : ℤ) → Fits x → a ≡ x.a → b ≡ x.b → c ≡ x.c → d ≡ x.d
    → ◌≡◌ {A = List (List ℤ)} ((to_z w64 (of_z w64 a) ∷ to_z w64 (of_z w64 b) ∷ []) ∷ (to_z w64 (of_z w64 c) ∷ to_z w64 (of_z w64 d) ∷ []) ∷ []) (rows x)
made_rows x a b c d f p q r s =
    λ i. (back a x.a p f.a i ∷ back b x.b q f.b i ∷ []) ∷ (back c x.c r f.c i ∷ back d x.d s f.d i ∷ []) ∷ []
