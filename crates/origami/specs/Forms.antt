-- Readings of a gluing, and the least of them.
--     order g x       the squares of g, in the order of the numbers that they get when x gets the first
--     reading g x     g in the numbers that its squares get when x gets the first
--     less xs ys      xs is below ys at the first entry where they differ
--     entries g       the entries of right and then those of up; behind the degree, both have zeros
--     earlier g k     g is below k as lists of entries
--     better g k      the earlier of the two
--     smallest g n    the earliest reading from the squares 0 to n
--     least g         the least form: the earliest reading from any square
--     IsLeast g m     m is one of the readings of g, and none is earlier
use Rattle.std.specs.Prelude.{◌≡◌, ℕ, zero, suc, pred, ◌<◌, Bool, true, false, cond, ◌&&◌, ◌||◌, List, [], ◌∷◌, ◌++◌, ◌==◌, nat_lt}
use Rattle.origami.specs.declared.gluing.Gluing.{Gluing}
use Rattle.origami.specs.Gluings.{right_of, up_of, padded}
use Rattle.origami.specs.Squares.{numbered, renumbered}

abbrev pub order : Gluing → ℕ → List ℕ
order g x = numbered (right_of g) (up_of g) x g.degree

unfoldable pub reading : Gluing → ℕ → Gluing
reading g x = record {
  degree = g.degree;
  right = padded g.degree (renumbered (right_of g) x (order g x));
  up = padded g.degree (renumbered (up_of g) x (order g x));
}

abbrev pub less : List ℕ → List ℕ → Bool
less [] [] = false
less [] (y ∷ ys) = true
less (x ∷ xs) [] = false
less (x ∷ xs) (y ∷ ys) = nat_lt x y || (x == y && less xs ys)

abbrev pub entries : Gluing → List ℕ
entries g = g.right ++ g.up

unfoldable pub earlier : Gluing → Gluing → Bool
earlier g k = less (entries g) (entries k)

abbrev pub better : Gluing → Gluing → Gluing
better g k = cond (earlier g k) g k

abbrev pub smallest : Gluing → ℕ → Gluing
smallest g zero = reading g 0
smallest g (suc n) = better (reading g (suc n)) (smallest g n)

unfoldable pub least : Gluing → Gluing
least g = smallest g (pred g.degree)

pub record IsLeast (g m : Gluing) : Type 0 where
  pub is_reading : (x : ℕ) × (x < g.degree) × (m ≡ reading g x)
  pub none_earlier : (x : ℕ) → x < g.degree → earlier (reading g x) m ≡ false
