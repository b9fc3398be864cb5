-- The test of soundness that code can run: one pass over the rows, which counts the rows reached so far.
--     named links r      the edge by which row r says that it was first reached
--     fits links e c     where c rows are reached before it, edge e leads to one of them, or to the next one, which names it
--     counted links e c  how many rows are reached after it
--     lawful links r     both laws hold at row r
--     fair links r c     row r is one of c reached before its edges, both edges fit, and both laws hold
--     swept links k r c  so it is for the k rows from r on, where c rows are reached before, and in the end all rows are reached
--     sound links        the whole test
--     SoundTells links   it passes exactly where the links are sound
use Rattle.std.specs.Prelude.{◌≡◌, ℕ, zero, suc, ◌+◌, ◌*◌, Bool, true, false, ◌&&◌, ◌||◌, ◌↔◌, List, length, ◌==◌, nat_lt}
use Rattle.modular.specs.declared.letter.Letter.TheVariants.{T, S}
use Rattle.table.specs.declared.link.Link.{Link}
use Rattle.table.specs.Links.{at, edge, aim_at, next}
use Rattle.table.specs.Soundness.{Sound}

module _ (links : List Link) where
  abbrev pub named : ℕ → ℕ
  named r = edge (at links r).parent (at links r).letter

  abbrev pub fits : ℕ → ℕ → Bool
  fits e c = nat_lt (aim_at links e) (length links) && (nat_lt (aim_at links e) c || (aim_at links e == c && named c == e))

  abbrev pub counted : ℕ → ℕ → ℕ
  counted e c = elim (aim_at links e == c) [ true ↦ c + 1 | false ↦ c ]

  abbrev pub lawful : ℕ → Bool
  lawful r =
      (next links S (next links S (next links S (next links S r))) == r)
      && next links T (next links S (next links T (next links S (next links T (next links S r))))) == next links S (next links S r)

  abbrev pub fair : ℕ → ℕ → Bool
  fair r c = (nat_lt r c && lawful r) && (fits (2 * r) c && fits (2 * r + 1) (counted (2 * r) c))

  abbrev pub swept : ℕ → ℕ → ℕ → Bool
  swept zero r c = c == r
  swept (suc k) r c = fair r c && swept k (r + 1) (counted (2 * r + 1) (counted (2 * r) c))

  abbrev pub sound : Bool
  sound = (nat_lt 0 (length links) && named 0 == 0) && swept (length links) 0 1

  abbrev pub SoundTells : Type 0
  SoundTells = (sound ≡ true) ↔ Sound links

-- on every list
abbrev pub SoundTestTells : Type 0
SoundTestTells = (links : List Link) → SoundTells links
