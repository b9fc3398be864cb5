-- The text of a listing, byte by byte: a definition for each kind of line, and the order of the lines.
--     line key xs               a line: a key, the fields xs with a comma between neighbours, and a line feed
--     shape_lines s              index=, cusps=, e2=, e3= and genus12=, a line each
--     row_line links r           row= with the number of row r, where T and S lead from it, and its word
--     generator_line links k     gen= with the four entries of generator k at the limit 10^9; gen=wide where it is declined
--     member_line r              member=yes of a matrix at row 0, member=no of one at another row
-- and for these
--     fields xs                 what a line has after its key
--     word_field w               the characters of a word; - for the empty word
--     answer_line x              the line of a generator, by what generator answers
--     each f n                  f of each number below n, from 0 on, one after another
--     table_lines links          all lines of a table with these links
--     member_lines links text xs the text, and after it a line for each matrix of xs; or the refusal of the first that is declined
--     listing links xs          the whole text for a table with these links and the matrices xs; or the refusal
use Rattle.std.specs.Prelude.{ℕ, zero, suc, ◌+◌, true, false, List, [], ◌∷◌, ◌++◌, length, Ok, Err, codes, decimal, Result, ◌==◌}
use Prim.Native.String.{String}
use Rattle.std.specs.Fmt.{signed_decimal}
use Rattle.modular.specs.declared.letter.Letter.TheVariants.{T, S}
use Rattle.modular.specs.Matrix.{M2}
use Rattle.table.specs.declared.link.Link.{Link}
use Rattle.table.specs.declared.refusal.Refusal.{Refusal}
use Rattle.table.specs.declared.shape.Shape.{Shape}
use Rattle.table.specs.Acting.{word_of}
use Rattle.table.specs.Links.{next}
use Rattle.table.specs.Questions.{characters, generating, placing}
use Rattle.table.specs.Shapes.{shape}

abbrev pub fields : List (List ℕ) → List ℕ
fields [] = 10 ∷ []
fields (x ∷ []) = x ++ 10 ∷ []
fields (x ∷ y ∷ xs) = x ++ 44 ∷ fields (y ∷ xs)

abbrev pub line : String → List (List ℕ) → List ℕ
line key xs = codes key ++ fields xs

abbrev pub shape_lines : Shape → List ℕ
shape_lines s =
    line "index=" (decimal s.rows ∷ [])
    ++ line "cusps=" (decimal s.cusps ∷ [])
    ++ line "e2=" (decimal s.e2 ∷ [])
    ++ line "e3=" (decimal s.e3 ∷ [])
    ++ line "genus12=" (signed_decimal s.genus12 ∷ [])

abbrev pub word_field : List ℕ → List ℕ
word_field [] = codes "-"
word_field (c ∷ cs) = c ∷ cs

abbrev pub row_line : List Link → ℕ → List ℕ
row_line links r =
    line "row=" (decimal r ∷ decimal (next links T r) ∷ decimal (next links S r) ∷ word_field (characters (word_of links r)) ∷ [])

abbrev pub answer_line : Result M2 Refusal → List ℕ
answer_line (Ok x) = line "gen=" (signed_decimal x.a ∷ signed_decimal x.b ∷ signed_decimal x.c ∷ signed_decimal x.d ∷ [])
answer_line (Err e) = line "gen=" (codes "wide" ∷ [])

abbrev pub generator_line : List Link → ℕ → List ℕ
generator_line links k = answer_line (generating links k 1000000000)

abbrev pub member_line : ℕ → List ℕ
member_line r = elim (r == 0) [ true ↦ line "member=" (codes "yes" ∷ []) | false ↦ line "member=" (codes "no" ∷ []) ]

abbrev pub each : (ℕ → List ℕ) → ℕ → List ℕ
each f zero = []
each f (suc n) = each f n ++ f n

-- rows from 0 on, and generators from 0 on, one more than the rows
abbrev pub table_lines : List Link → List ℕ
table_lines links =
    shape_lines (shape links)
    ++ each (row_line links) (length links)
    ++ each (generator_line links) (length links + 1)

abbrev pub member_lines : List Link → List ℕ → List M2 → Result (List ℕ) Refusal
member_lines links text [] = Ok text
member_lines links text (x ∷ xs) = elim (placing links x) [ Ok r ↦ member_lines links (text ++ member_line r) xs | Err e ↦ Err e ]

abbrev pub listing : List Link → List M2 → Result (List ℕ) Refusal
listing links xs = member_lines links (table_lines links) xs
