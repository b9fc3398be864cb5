-- Lines modulo n: vectors of which only the least multiple is kept, and the action on them.
--     scaled n u v      the multiple u·c, u·d
--     coprime n u       gcd(u, n) is 1
--     earlier v w       v comes before w: by c, and then by d
--     better n u v m    the multiple of v by u if u is coprime to n and that multiple comes before m, and else m
--     least_below n k v  the least among v and its multiples by numbers below k that are coprime to n
--     least n v         the least multiple of v by a number coprime to n
--     IsLeast n v m     m is what the last line says
--     IsLine n v        v is primitive, and its own least multiple
--     sheared n v       the T step: the least multiple of c, c+d
--     turned n v        the S step: the least multiple of d, −c
--     LinesAt n ..      an action is this one at level n, and its members are the matrices with c ≡ 0 modulo n
use Rattle.std.specs.Prelude.{◌≡◌, ℕ, zero, suc, Bool, false, cond, ◌&&◌, ◌||◌, pos, ◌*ℤ◌, ◌==◌, nat_lt}
use Rattle.numbers.specs.Gcd.{gcd}
use Rattle.numbers.specs.Residues.{Cong}
use Rattle.levels.specs.Levels.{IsLevel, Acts}
use Rattle.levels.specs.Vectors as vectors
use Rattle.levels.specs.Vectors.{vector, Primitive, first}
use Rattle.levels.specs.declared.vectors.Vector.{Vector}

abbrev pub scaled : ℕ → ℕ → Vector → Vector
scaled n u v = vector n (pos u *ℤ pos v.c) (pos u *ℤ pos v.d)

abbrev pub coprime : ℕ → ℕ → Bool
coprime n u = gcd u n == 1

abbrev pub earlier : Vector → Vector → Bool
earlier v w = nat_lt v.c w.c || (v.c == w.c && nat_lt v.d w.d)

abbrev pub better : ℕ → ℕ → Vector → Vector → Vector
better n u v m = cond (earlier (scaled n u v) m && coprime n u) (scaled n u v) m

abbrev pub least_below : ℕ → ℕ → Vector → Vector
least_below n zero v = vector n (pos v.c) (pos v.d)
least_below n (suc u) v = better n u v (least_below n u v)

abbrev pub least : ℕ → Vector → Vector
least n v = least_below n n v

pub record IsLeast (n : ℕ) (v m : Vector) : Type 0 where
  pub multiple : (u : ℕ) × (gcd u n ≡ 1) × (m ≡ scaled n u v)
  pub none_earlier : (u : ℕ) → gcd u n ≡ 1 → earlier (scaled n u v) m ≡ false

pub record IsLine (n : ℕ) (v : Vector) : Type 0 where
  pub primitive : Primitive n v
  pub own : least n v ≡ v

abbrev pub sheared : ℕ → Vector → Vector
sheared n v = least n (vectors.sheared n v)

abbrev pub turned : ℕ → Vector → Vector
turned n v = least n (vectors.turned n v)

abbrev pub LinesAt : ℕ → (Vector → Type 0) → Vector → (Vector → Vector) → (Vector → Vector) → Type 0
LinesAt n point start t s =
    IsLevel n × ((v : Vector) → IsLeast n v (least n v))
    × Acts point start t s (IsLine n) (first n) (sheared n) (turned n) (λ x. Cong n x.c (pos 0))
