-- The links of a table as an action on the row numbers, and the word of a row.
--     IsRow links r        r is the number of a row
--     word_of links r       the letters of the edges by which row r was reached, from row 0 on
use Rattle.std.specs.Prelude.{ℕ, zero, suc, ◌<◌, true, false, List, [], ◌∷◌, ◌++◌, length, ◌==◌}
use Rattle.modular.specs.declared.letter.Letter.{Letter}
use Rattle.table.specs.declared.link.Link.{Link}
use Rattle.table.specs.Links.{at}

abbrev pub IsRow : List Link → ℕ → Type 0
IsRow links r = r < length links

-- the word of row r, through at most n parents
abbrev pub spelled : List Link → ℕ → ℕ → List Letter
spelled links zero r = []
spelled links (suc n) r = elim (r == 0) [ true ↦ [] | false ↦ spelled links n (at links r).parent ++ (at links r).letter ∷ [] ]

-- a parent is a lower row, so r parents are enough
abbrev pub word_of : List Link → ℕ → List Letter
word_of links r = spelled links r r
