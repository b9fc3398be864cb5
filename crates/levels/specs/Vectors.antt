-- Vectors modulo n, and the action on them.
--     vector n x y     the vector with the residues of x and y
--     Primitive n v    the entries of v are residues, and gcd(c, d, n) is 1
--     first n          0, 1
--     sheared n v      the T step: c, c+d
--     turned n v       the S step: d, −c
--     alike v w        v and w have the same entries
--     VectorsAt n ..   an action is this one at level n, and its members are the matrices with c ≡ 0 and d ≡ 1 modulo n
use Rattle.std.specs.Prelude.{◌≡◌, ℕ, ◌<◌, Bool, ◌&&◌, ℤ, pos, ◌+ℤ◌, neg_ℤ, ◌==◌}
use Rattle.numbers.specs.Gcd.{gcd}
use Rattle.numbers.specs.Residues.{Cong, residue}
use Rattle.levels.specs.Levels.{IsLevel, Acts}
use Rattle.levels.specs.declared.vectors.Vector.{Vector}

abbrev pub vector : ℕ → ℤ → ℤ → Vector
vector n x y = record { c = residue n x; d = residue n y }

pub record Primitive (n : ℕ) (v : Vector) : Type 0 where
  pub c_below : v.c < n
  pub d_below : v.d < n
  pub coprime : gcd (gcd v.c v.d) n ≡ 1

abbrev pub first : ℕ → Vector
first n = vector n (pos 0) (pos 1)

abbrev pub sheared : ℕ → Vector → Vector
sheared n v = vector n (pos v.c) (pos v.c +ℤ pos v.d)

abbrev pub turned : ℕ → Vector → Vector
turned n v = vector n (pos v.d) (neg_ℤ (pos v.c))

abbrev pub alike : Vector → Vector → Bool
alike v w = v.c == w.c && v.d == w.d

abbrev pub VectorsAt : ℕ → (Vector → Type 0) → Vector → (Vector → Vector) → (Vector → Vector) → Type 0
VectorsAt n point start t s =
    IsLevel n × Acts point start t s (Primitive n) (first n) (sheared n) (turned n) (λ x. Cong n x.c (pos 0) × Cong n x.d (pos 1))
