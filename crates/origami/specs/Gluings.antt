-- Gluings: what they are, when one is another with its squares renumbered, and the two steps on them.
--     right_of g, up_of g    the right and the upper neighbour of a square
--     Glues g              g is a gluing: 1 to 16 squares, two permutations, each square reached from square 0
--     Inside g             of these only: 1 to 16 squares, and all neighbours are squares
--     Renumbered g k       some renumbering of the squares turns g into k
--     padded d h           the 16 entries h 0, h 1, .. up to d of them, and 0 behind
--     sheared g            the T step: right stays, and i goes up to what is above the right neighbour of i
--     turned g             the S step: up becomes right, and the inverse of right becomes up
use Rattle.std.specs.Prelude.{◌≡◌, ℕ, ◌<◌, ◌≤◌, cond, List, map, nat_lt, slice_index}
use Rattle.std.specs.List.{range_with_len}
use Rattle.origami.specs.declared.gluing.Gluing.{Gluing}
use Rattle.origami.specs.Squares.{Into, Permutes, inverse, Reached, Carries}

abbrev pub right_of : Gluing → ℕ → ℕ
right_of g i = slice_index g.right i

abbrev pub up_of : Gluing → ℕ → ℕ
up_of g i = slice_index g.up i

pub record Glues (g : Gluing) : Type 0 where
  pub some : 0 < g.degree
  pub few : g.degree ≤ 16
  pub rights : Permutes g.degree (right_of g)
  pub ups : Permutes g.degree (up_of g)
  pub reached : (i : ℕ) → i < g.degree → Reached (right_of g) (up_of g) i

pub record Inside (g : Gluing) : Type 0 where
  pub some : 0 < g.degree
  pub few : g.degree ≤ 16
  pub rights : Into g.degree (right_of g)
  pub ups : Into g.degree (up_of g)

abbrev pub Renumbered : Gluing → Gluing → Type 0
Renumbered g k = (g.degree ≡ k.degree) × (σ : ℕ → ℕ) × Carries g.degree σ (right_of g) (up_of g) (right_of k) (up_of k)

unfoldable pub padded : ℕ → (ℕ → ℕ) → List ℕ
padded d h = map (λ k. cond (nat_lt k d) (h k) 0) (range_with_len 0 16)

abbrev pub sheared : Gluing → Gluing
sheared g = record { degree = g.degree; right = g.right; up = padded g.degree (λ i. up_of g (right_of g i)) }

abbrev pub turned : Gluing → Gluing
turned g = record { degree = g.degree; right = g.up; up = padded g.degree (inverse g.degree (right_of g)) }
