-- Matrices modulo n, and the action on them. A record is an array of rows.
--     reduced n x       the rows of the residues of x
--     entries m         the integer matrix with the entries of m, and at m i j the entry in row i and column j
--     Unimodular n m    m consists of residues, and ad − bc is 1 modulo n
--     first n           the identity
--     sheared n m       the T step: a, a+b, c, c+d
--     turned n m        the S step: b, −a, d, −c
--     alike m k         m and k have the same rows
--     Principal n x     a and d are 1 and b and c are 0 modulo n
--     MatricesAt n ..   an action is this one at level n, and its members are those
use Rattle.std.specs.Prelude.{◌≡◌, ℕ, Bool, true, false, ◌&&◌, List, [], ◌∷◌, pos, ◌+ℤ◌, neg_ℤ, slice_index, slice_index_or}
use Rattle.numbers.specs.Residues.{Cong, residue}
use Rattle.modular.specs.Matrix.{M2, det, identity}
use Rattle.std.specs.Str.{bytes_eq}
use Rattle.levels.specs.Levels.{IsLevel, Acts}

abbrev pub reduced : ℕ → M2 → List (List ℕ)
reduced n x = (residue n x.a ∷ residue n x.b ∷ []) ∷ (residue n x.c ∷ residue n x.d ∷ []) ∷ []

abbrev pub at : List (List ℕ) → ℕ → ℕ → ℕ
at m i j = slice_index (slice_index_or m i []) j

abbrev pub entries : List (List ℕ) → M2
entries m = record { a = pos (at m 0 0); b = pos (at m 0 1); c = pos (at m 1 0); d = pos (at m 1 1) }

pub record Unimodular (n : ℕ) (m : List (List ℕ)) : Type 0 where
  pub kept : m ≡ reduced n (entries m)
  pub one : Cong n (det (entries m)) (pos 1)

abbrev pub first : ℕ → List (List ℕ)
first n = reduced n identity

abbrev pub shear : M2 → M2
shear x = record { a = x.a; b = x.a +ℤ x.b; c = x.c; d = x.c +ℤ x.d }

abbrev pub turn : M2 → M2
turn x = record { a = x.b; b = neg_ℤ x.a; c = x.d; d = neg_ℤ x.c }

abbrev pub sheared : ℕ → List (List ℕ) → List (List ℕ)
sheared n m = reduced n (shear (entries m))

abbrev pub turned : ℕ → List (List ℕ) → List (List ℕ)
turned n m = reduced n (turn (entries m))

abbrev pub alike : List (List ℕ) → List (List ℕ) → Bool
alike [] [] = true
alike [] (s ∷ k) = false
alike (r ∷ m) [] = false
alike (r ∷ m) (s ∷ k) = bytes_eq r s && alike m k

pub record Principal (n : ℕ) (x : M2) : Type 0 where
  pub a_one : Cong n x.a (pos 1)
  pub b_zero : Cong n x.b (pos 0)
  pub c_zero : Cong n x.c (pos 0)
  pub d_one : Cong n x.d (pos 1)

abbrev pub MatricesAt : ℕ → (List (List ℕ) → Type 0) → List (List ℕ) → (List (List ℕ) → List (List ℕ)) → (List (List ℕ) → List (List ℕ)) → Type 0
MatricesAt n point start t s = IsLevel n × Acts point start t s (Unimodular n) (first n) (sheared n) (turned n) (Principal n)
