-- The links of a table: where the T edge and the S edge of each row lead, and the edge by which the row was first reached.
--     aim g l          the number to which the edge of letter g leads; 65,535 where it is not filled
--     target_of g l     the same as an option
--     empty r g        the link of a new row that was first reached from row r by letter g
--     at links r       the link of row r
--     edge r g         the number of an edge: 2r for the T edge of row r, 2r + 1 for its S edge
--     aim_at links e    the number to which the edge with the number e leads
--     next links g r   where the step of letter g leads from row r; a number that is no row stays where it is
use Rattle.std.specs.Prelude.{ℕ, ◌+◌, ◌*◌, ◌/◌, ◌%◌, true, false, List, length, Some, None, Option, ◌==◌, nat_lt, slice_index_or}
use Rattle.modular.specs.declared.letter.Letter.{Letter}
use Rattle.modular.specs.declared.letter.Letter.TheVariants.{T, S}
use Rattle.table.specs.declared.link.Link.{Link}

abbrev pub aim : Letter → Link → ℕ
aim T l = l.t
aim S l = l.s

abbrev pub filled : ℕ → Option ℕ
filled r = elim (r == 65535) [ true ↦ None | false ↦ Some r ]

abbrev pub target_of : Letter → Link → Option ℕ
target_of g l = filled (aim g l)

abbrev pub empty : ℕ → Letter → Link
empty r g = record { t = 65535; s = 65535; parent = r; letter = g }

abbrev pub at : List Link → ℕ → Link
at links r = slice_index_or links r (empty 0 T)

abbrev pub edge : ℕ → Letter → ℕ
edge r T = 2 * r
edge r S = 2 * r + 1

-- the letter of an edge, by whether its number is even
abbrev pub letter_at : ℕ → Letter
letter_at e = elim (e % 2 == 0) [ true ↦ T | false ↦ S ]

abbrev pub aim_at : List Link → ℕ → ℕ
aim_at links e = aim (letter_at e) (at links (e / 2))

abbrev pub next : List Link → Letter → ℕ → ℕ
next links g r = elim (nat_lt r (length links)) [ true ↦ aim g (at links r) | false ↦ r ]
