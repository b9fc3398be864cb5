-- Two-by-two matrices over the unbounded integers.
--     M2            a matrix: first row a b, second row c d
--     entries m     the matrix that an array of rows holds, and rows x the array that holds x
--     det x         ad − bc
--     x · y         the product
--     inverted x    the inverse, where det x is 1
--     Fits x        each entry is a number of 64 bits
use Rattle.std.specs.Prelude.{◌≡◌, ℕ, List, [], ◌∷◌, ℤ, pos, ◌+ℤ◌, ◌-ℤ◌, ◌*ℤ◌, neg_ℤ, FitsSigned, slice_index_or}
use Rattle.std.specs.Int.{w64}

pub record M2 : Type 0 where
  pub a : ℤ
  pub b : ℤ
  pub c : ℤ
  pub d : ℤ

-- the entry in row i and column j
abbrev pub entry : List (List ℤ) → ℕ → ℕ → ℤ
entry m i j = slice_index_or (slice_index_or m i []) j (pos 0)

abbrev pub entries : List (List ℤ) → M2
entries m = record { a = entry m 0 0; b = entry m 0 1; c = entry m 1 0; d = entry m 1 1 }

abbrev pub rows : M2 → List (List ℤ)
rows x = (x.a ∷ x.b ∷ []) ∷ (x.c ∷ x.d ∷ []) ∷ []

abbrev pub identity : M2
identity = record { a = pos 1; b = pos 0; c = pos 0; d = pos 1 }

abbrev pub det : M2 → ℤ
det x = x.a *ℤ x.d -ℤ x.b *ℤ x.c

infixl 7 ◌·◌
abbrev pub ◌·◌ : M2 → M2 → M2
x · y = record {
  a = x.a *ℤ y.a +ℤ x.b *ℤ y.c;
  b = x.a *ℤ y.b +ℤ x.b *ℤ y.d;
  c = x.c *ℤ y.a +ℤ x.d *ℤ y.c;
  d = x.c *ℤ y.b +ℤ x.d *ℤ y.d;
}

abbrev pub inverted : M2 → M2
inverted x = record { a = x.d; b = neg_ℤ x.b; c = neg_ℤ x.c; d = x.a }

pub record Fits (x : M2) : Type 0 where
  pub a : FitsSigned w64 x.a
  pub b : FitsSigned w64 x.b
  pub c : FitsSigned w64 x.c
  pub d : FitsSigned w64 x.d

-- x has determinant 1, and its inverse can be held
pub record Invertible (x : M2) : Type 0 where
  pub one : det x ≡ pos 1
  pub holds : Fits (inverted x)

-- y undoes x from either side
pub record Undoes (x y : M2) : Type 0 where
  pub after : x · y ≡ identity
  pub before : y · x ≡ identity
