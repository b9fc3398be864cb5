-- Questions to a finished table: what each answers, and all bytes after it, on every input.
--     placing links x            place, by its tests place_by: the row of a matrix
--     spelling links r out       spell, by its tests spell_by: the length of the row's word, and the output after it
--     generating links k limit   generator, by its tests generate_by: the generator with the number k
--     measuring links r          width, by its test measure_by: the width of a row; shape never declines
-- and for these
--     within n x                 no entry of x is beyond n either side of 0
--     is_one z                    z is 1
--     character g, characters w  the codes of the characters of a letter and of a word
--     written c, letters cs      the letters that characters stand for: T is T, and any other is S
--     prefixes n x w             x times the matrix of each word that w begins with is within n
--     in_rows r                   an answer with its matrix as an array of rows
--     narrow links n e           so it is for both words of the edge e, the first with its letter, and for its generator
use Rattle.std.specs.Prelude.{ℕ, ◌+◌, ◌/◌, Bool, true, false, ◌&&◌, List, [], ◌∷◌, ◌++◌, map, length, drop, ℤ, Ok, Err, Result, ◌==◌, nat_le, nat_lt, slice_index, unsigned_abs}
use Rattle.std.specs.Int.Signed.{non_neg}
use Rattle.modular.specs.declared.letter.Letter.{Letter}
use Rattle.modular.specs.declared.letter.Letter.TheVariants.{T, S}
use Rattle.modular.specs.Matrix.{M2, det, identity, rows, ◌·◌}
use Rattle.modular.specs.Words.{name_of, of_letter}
use Rattle.table.specs.declared.link.Link.{Link}
use Rattle.table.specs.declared.refusal.Refusal.{Refusal}
use Rattle.table.specs.declared.refusal.Refusal.TheVariants.{Range, Determinant, Length, NoSuch, Wide}
use Rattle.table.specs.Acting.{word_of}
use Rattle.table.specs.Generators.{generator_at, other_edges}
use Rattle.table.specs.Links.{aim_at, letter_at}
use Rattle.table.specs.Placing.{placed}
use Rattle.table.specs.Widths.{width}

abbrev pub within : ℕ → M2 → Bool
within n x = (nat_le (unsigned_abs x.a) n && nat_le (unsigned_abs x.b) n) && (nat_le (unsigned_abs x.c) n && nat_le (unsigned_abs x.d) n)

abbrev pub is_one : ℤ → Bool
is_one z = unsigned_abs z == 1 && non_neg z

-- by its tests: entries in range, determinant 1
abbrev pub place_by : (small one : Bool) → ℕ → Result ℕ Refusal
place_by false one r = Err Range
place_by true false r = Err Determinant
place_by true true r = Ok r

abbrev pub placing : List Link → M2 → Result ℕ Refusal
placing links x = place_by (within 1000000000 x) (is_one (det x)) (placed links x)

abbrev pub character : Letter → ℕ
character = name_of

abbrev pub characters : List Letter → List ℕ
characters w = map character w

abbrev pub written : ℕ → Letter
written c = elim (c == 84) [ true ↦ T | false ↦ S ]

abbrev pub letters : List ℕ → List Letter
letters cs = map written cs

pub record Spelled : Type 0 where
  pub answer : Result ℕ Refusal
  pub out : List ℕ

-- by its tests: there is such a row, and its word has room
abbrev pub spell_by : (row room : Bool) → List ℕ → List ℕ → Spelled
spell_by false room word out = record { answer = Err NoSuch; out = out }
spell_by true false word out = record { answer = Err Length; out = out }
spell_by true true word out = record { answer = Ok (length word); out = word ++ drop (length word) out }

abbrev pub spelling : List Link → ℕ → List ℕ → Spelled
spelling links r out =
    spell_by (nat_lt r (length links)) (nat_le (length (characters (word_of links r))) (length out)) (characters (word_of links r)) out

abbrev pub prefixes : ℕ → M2 → List Letter → Bool
prefixes n x [] = within n x
prefixes n x (g ∷ w) = within n x && prefixes n (x · of_letter g) w

abbrev pub narrow : List Link → ℕ → ℕ → Bool
narrow links n e =
    prefixes n identity (word_of links (e / 2) ++ letter_at e ∷ []) && (prefixes n identity (word_of links (aim_at links e)) && within n (generator_at links e))

-- by its tests: there is such a generator, the limit is in range, no entry is beyond it
abbrev pub generate_by : (there limit small : Bool) → M2 → Result M2 Refusal
generate_by false limit small x = Err NoSuch
generate_by true false small x = Err Range
generate_by true true false x = Err Wide
generate_by true true true x = Ok x

-- the edge of the generator with the number k
abbrev pub edge_of : List Link → ℕ → ℕ
edge_of links k = slice_index (other_edges links) k

abbrev pub generating : List Link → ℕ → ℕ → Result M2 Refusal
generating links k limit =
    generate_by (nat_lt k (length links + 1)) (nat_lt 0 limit && nat_le limit 1000000000) (narrow links limit (edge_of links k)) (generator_at links (edge_of links k))

abbrev pub in_rows : Result M2 Refusal → Result (List (List ℤ)) Refusal
in_rows (Ok x) = Ok (rows x)
in_rows (Err e) = Err e

-- by its test: there is such a row
abbrev pub measure_by : (row : Bool) → ℕ → Result ℕ Refusal
measure_by false w = Err NoSuch
measure_by true w = Ok w

abbrev pub measuring : List Link → ℕ → Result ℕ Refusal
measuring links r = measure_by (nat_lt r (length links)) (width links r)
