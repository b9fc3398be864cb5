-- When a list of links is sound: it could have been grown from an action.
use Rattle.std.specs.Prelude.{◌≡◌, ℕ, ◌<◌, List, length}
use Rattle.modular.specs.declared.letter.Letter.{Letter}
use Rattle.modular.specs.declared.letter.Letter.TheVariants.{T, S}
use Rattle.table.specs.declared.link.Link.{Link}
use Rattle.table.specs.Links.{at, edge, aim_at, next}

pub record Sound (links : List Link) : Type 0 where
  pub some : 0 < length links
  -- every target is below the count
  pub below : (g : Letter) (r : ℕ) → r < length links → next links g r < length links
  -- S four times leads back, and "S then T" three times leads where S twice does
  pub four_s : (r : ℕ) → r < length links → next links S (next links S (next links S (next links S r))) ≡ r
  pub three_st : (r : ℕ) → r < length links → next links T (next links S (next links T (next links S (next links T (next links S r))))) ≡ next links S (next links S r)
  -- row 0 names no edge
  pub root_parent : (at links 0).parent ≡ 0
  pub root_letter : (at links 0).letter ≡ T
  -- each other row is reached from a lower row by the edge that it names
  pub from_lower : (r : ℕ) → 0 < r → r < length links → (at links r).parent < r
  pub reached : (r : ℕ) → 0 < r → r < length links → next links (at links r).letter (at links r).parent ≡ r
  -- and before that edge, in the order of edges, none leads to it or to a higher row
  pub first : (r : ℕ) → 0 < r → r < length links → (e : ℕ) → e < edge (at links r).parent (at links r).letter → aim_at links e < r
