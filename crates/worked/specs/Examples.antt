-- Tables worked by hand, as one test that computes.
--     grown_by .. n k        a table over an action, in memory for n rows, after k calls of fill
--     number a              the number of a refusal, and 0 for an answer
--     same xs ys            two lists of numbers are equal
--     four_squares           the origami with right 2,3,1,4 and up 4,2,3,1, whose least form is right 1,3,4,2 and up 2,1,3,4
--     three_squares          the origami with right 2,1,3 and up 3,2,1
--     four_grown n k         the table of the four squares in memory for n rows, after k calls of fill
--     Worked                the examples hold: lines of level 2, their mirror and their generators; the four squares, their least form,
--                           links, words, places and shape, and that memory for 9 rows takes 18 fills and has then no edge left, but
--                           memory for 8 rows takes 12 and has then no free row; the three squares
use Rattle.std.specs.Prelude.{◌≡◌, ℕ, zero, suc, Bool, true, false, ◌&&◌, List, [], ◌∷◌, map, length, take, replicate, ℤ, pos, negsuc, Ok, Err, codes, Result, ◌==◌, int_le}
use Rattle.std.specs.Str.{bytes_eq as same}
use Rattle.modular.specs.declared.letter.Letter.TheVariants.{T}
use Rattle.modular.specs.Actions.{lead}
use Rattle.modular.specs.Inverses.{back_t, back_s}
use Rattle.modular.specs.Matrix.{M2}
use Rattle.levels.specs.Lines as lines
use Rattle.levels.specs.Vectors as vectors
use Rattle.levels.specs.declared.vectors.Vector.{Vector}
use Rattle.origami.specs.Forms.{least}
use Rattle.origami.specs.Listings.{listed}
use Rattle.origami.specs.Origamis.{sheared_form, turned_form, alike}
use Rattle.origami.specs.declared.gluing.Gluing.{Gluing}
use Rattle.table.specs.declared.link.Link.{Link}
use Rattle.table.specs.declared.refusal.Refusal.{Refusal}
use Rattle.table.specs.Acting.{word_of}
use Rattle.table.specs.Generators.{generators}
use Rattle.table.specs.Growing.{Growing, opened, filling}
use Rattle.table.specs.Links.{empty}
use Rattle.table.specs.Placing.{placed}
use Rattle.table.specs.Questions.{characters}
use Rattle.table.specs.Refusals.{number_of}
use Rattle.table.specs.Shapes.{Shape, shape}
use Rattle.table.specs.SoundTest.{sound}

abbrev pub grown_by : {R : Type 0} → R → (R → R) → (R → R) → (R → R → Bool) → ℕ → ℕ → Growing R
grown_by start t s agrees n zero = record {
  counts = record { size = n; held = 1; filled = 0 };
  rows = (opened start (replicate n start) (replicate n (empty 0 T))).rows;
  links = (opened start (replicate n start) (replicate n (empty 0 T))).links;
}
grown_by start t s agrees n (suc k) = (filling start t s agrees (grown_by start t s agrees n k)).memory

abbrev pub number : {A : Type 0} → Result A Refusal → ℕ
number (Ok a) = 0
number (Err e) = number_of e

abbrev pub same_z : ℤ → ℤ → Bool
same_z x y = int_le x y && int_le y x

abbrev pub same_matrix : M2 → ℤ → ℤ → ℤ → ℤ → Bool
same_matrix x a b c d = (same_z x.a a && same_z x.b b) && (same_z x.c c && same_z x.d d)

abbrev pub same_shape : Shape → ℕ → ℕ → ℕ → ℕ → ℤ → Bool
same_shape x rows cusps e2 e3 genus12 = (x.rows == rows && x.cusps == cusps) && ((x.e2 == e2 && x.e3 == e3) && same_z x.genus12 genus12)

abbrev pub matrix_of : ℤ → ℤ → ℤ → ℤ → M2
matrix_of a b c d = record { a = a; b = b; c = c; d = d }

-- the T targets and the S targets of links
abbrev pub linked : List Link → List ℕ → List ℕ → Bool
linked links ts ss = same (map (λ l. l.t) links) ts && same (map (λ l. l.s) links) ss

abbrev pub lines2 : Growing Vector
lines2 = grown_by (vectors.first 2) (lines.sheared 2) (lines.turned 2) vectors.alike 3 6

abbrev pub mirror_of_lines2 : Growing Vector
mirror_of_lines2 =
    grown_by (vectors.first 2) (lead (lines.sheared 2) (lines.turned 2) back_t) (lead (lines.sheared 2) (lines.turned 2) back_s) vectors.alike 3 6

-- rows, words, shape and one placement of lines of level 2
abbrev pub lines_hold : List Link → Bool
lines_hold links =
    (linked links (0 ∷ 2 ∷ 1 ∷ []) (1 ∷ 0 ∷ 2 ∷ []) && sound links)
    && ((same (characters (word_of links 1)) (codes "S") && same (characters (word_of links 2)) (codes "ST"))
    && (same_shape (shape links) 3 2 1 0 (pos 0) && placed links (matrix_of (pos 1) (pos 0) (pos 2) (pos 1)) == 0))

-- the generators of lines of level 2, in their order
abbrev pub generators_hold : List M2 → Bool
generators_hold [] = false
generators_hold (x ∷ []) = false
generators_hold (x ∷ y ∷ []) = false
generators_hold (x ∷ y ∷ z ∷ []) = false
generators_hold (x ∷ y ∷ z ∷ w ∷ more) =
    ((same_matrix x (pos 1) (pos 1) (pos 0) (pos 1) && same_matrix y (negsuc 0) (pos 0) (pos 0) (negsuc 0))
    && (same_matrix z (pos 1) (pos 0) (negsuc 1) (pos 1) && same_matrix w (negsuc 0) (negsuc 0) (pos 2) (pos 1)))
    && length more == 0

abbrev pub four_squares : Gluing
four_squares = least (listed (2 ∷ 3 ∷ 1 ∷ 4 ∷ []) (4 ∷ 2 ∷ 3 ∷ 1 ∷ []))

-- squares count from 0 here
abbrev pub form_holds : Gluing → Bool
form_holds g = same (take 4 g.right) (0 ∷ 2 ∷ 3 ∷ 1 ∷ []) && same (take 4 g.up) (1 ∷ 0 ∷ 2 ∷ 3 ∷ [])

abbrev pub four_grown : ℕ → ℕ → Growing Gluing
four_grown n k = grown_by four_squares sheared_form turned_form alike n k

abbrev pub words_hold : List Link → Bool
words_hold links =
    ((same (characters (word_of links 1)) (codes "T") && same (characters (word_of links 2)) (codes "S"))
    && (same (characters (word_of links 3)) (codes "TT") && same (characters (word_of links 4)) (codes "TS")))
    && ((same (characters (word_of links 5)) (codes "ST") && same (characters (word_of links 6)) (codes "TTS"))
    && (same (characters (word_of links 7)) (codes "TST") && same (characters (word_of links 8)) (codes "TTST")))

abbrev pub places_hold : List Link → Bool
places_hold links =
    (placed links (matrix_of (negsuc 2) (pos 5) (negsuc 1) (pos 3)) == 0 && placed links (matrix_of (pos 1) (pos 1) (pos 0) (pos 1)) == 1)
    && (placed links (matrix_of (pos 1) (negsuc 0) (pos 0) (pos 1)) == 3 && placed links (matrix_of (pos 1) (pos 1000000000) (pos 0) (pos 1)) == 1)

abbrev pub four_hold : List Link → Bool
four_hold links =
    (linked links (1 ∷ 3 ∷ 5 ∷ 0 ∷ 7 ∷ 2 ∷ 8 ∷ 6 ∷ 4 ∷ []) (2 ∷ 4 ∷ 0 ∷ 6 ∷ 1 ∷ 7 ∷ 3 ∷ 5 ∷ 8 ∷ []) && sound links)
    && (same_shape (shape links) 9 3 1 0 (pos 0) && (words_hold links && places_hold links))

abbrev pub three_squares : Gluing
three_squares = least (listed (2 ∷ 1 ∷ 3 ∷ []) (3 ∷ 2 ∷ 1 ∷ []))

abbrev pub three_hold : List Link → Bool
three_hold links = sound links && (same (characters (word_of links 1)) (codes "T") && same (characters (word_of links 2)) (codes "TS"))

-- the number of the refusal of one fill more
abbrev pub four_declined : Growing Gluing → ℕ
four_declined m = number (filling four_squares sheared_form turned_form alike m).answer

pub record Worked : Type 0 where
  pub lines : lines_hold lines2.links ≡ true
  pub mirrored : lines_hold mirror_of_lines2.links ≡ true
  pub generated : generators_hold (generators lines2.links) ≡ true
  pub least_form : form_holds four_squares ≡ true
  pub four : four_hold (four_grown 9 18).links ≡ true
  pub nine_take_18 : (four_grown 9 18).counts.filled ≡ 18
  pub no_edge_left : four_declined (four_grown 9 18) ≡ 9
  pub eight_take_12 : (four_grown 8 12).counts.filled ≡ 12
  pub no_free_row : four_declined (four_grown 8 12) ≡ 8
  pub three : three_hold (grown_by three_squares sheared_form turned_form alike 3 6).links ≡ true
