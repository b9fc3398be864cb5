-- A growing table: what each call answers, and all memory after it, on every input. Records are of a type R, with a first one, the
-- two steps, and the test whether two of them agree.
--     Growing R              the counts of a table, and the rows and links that are lent to it
--     Fit c                  counts that a table can have: some row is held, and no more rows and edges than there is room for
--     moment c rows links    the table with the counts c over these rows and links
--     Opened R, After R A    an answer or a refusal, and all memory after the call
--     opened rows links      open, by its test open_by
--     filling m              fill, by its tests fill_by
--     FilledOn start t s agrees m n   accepted fills alone lead from the growing table m to n
--     following m word       follow, for the word of these characters: an answer alone, since it writes nothing
--     followed links word    follow on a finished table
--     closing m              close, by its tests close_by: the finished table is the held links; it writes nothing
-- and for these
--     lendable n k           open takes n rows and k links
--     as_lent m               rows and links are as many as at open
--     edge_left m, row_free m  some edge of a held row is not filled; some row is not held
--     next_row m, next_letter m    the row and the letter of the lowest edge that is not filled
--     step t s g p           what the step of letter g makes of p
--     made m                 the record that the step of the lowest unfilled edge makes
--     sought rows p          the lowest of the rows that agrees with p; their number, where none does
--     found m, agreed m      the row sought among those held; whether there is one
--     aimed g n l            the link l, but its edge of letter g leads to row n
--     linked links r g n     the links, but the edge of letter g of row r leads to row n
--     leads_to n g l          where the edge of letter g leads among n rows: a target that is not below n counts as empty
--     walk n links word      follow among n rows
--     walk_from n links word k r    the same from row r, where k letters are done
use Rattle.std.specs.Prelude.{◌≡◌, ℕ, suc, ◌+◌, ◌*◌, ◌/◌, ◌<◌, ◌≤◌, Bool, true, false, ◌&&◌, List, [], ◌∷◌, length, take, Some, None, Ok, Err, Option, Result, ◌==◌, nat_le, nat_lt, slice_index_or, slice_set}
use Rattle.modular.specs.declared.letter.Letter.{Letter}
use Rattle.modular.specs.declared.letter.Letter.TheVariants.{T, S}
use Rattle.modular.specs.Words.{letter_of}
use Rattle.table.specs.declared.counts.Counts.{Counts}
use Rattle.table.specs.declared.counts.Filled.{Filled}
use Rattle.table.specs.declared.link.Link.{Link}
use Rattle.table.specs.declared.refusal.Refusal.{Refusal}
use Rattle.table.specs.declared.refusal.Refusal.TheVariants.{Memory, NoFreeRow, NoEdgeLeft, Unfilled, Unsound, NotALetter, EmptyEdge, Length}
use Rattle.table.specs.Links.{aim, target_of, empty, at, letter_at}
use Rattle.table.specs.SoundTest.{sound}

pub record Growing (R : Type 0) : Type 0 where
  pub counts : Counts
  pub rows : List R
  pub links : List Link

pub record Opened (R : Type 0) : Type 0 where
  pub answer : Result Counts Refusal
  pub rows : List R
  pub links : List Link

pub record After (R A : Type 0) : Type 0 where
  pub answer : Result A Refusal
  pub memory : Growing R

abbrev pub Fit : Counts → Type 0
Fit c = (0 < c.held) × (c.held ≤ c.size) × (c.size ≤ 65000) × (c.filled ≤ 2 * c.held)

abbrev pub moment : {R : Type 0} → Counts → List R → List Link → Growing R
moment c rows links = record { counts = c; rows = rows; links = links }

abbrev pub leads_to : ℕ → Letter → Link → Option ℕ
leads_to n g l = elim (nat_lt (aim g l) n) [ true ↦ target_of g l | false ↦ None ]

abbrev pub walk_from : ℕ → List Link → List ℕ → ℕ → ℕ → Result ℕ Refusal
walk_from n links [] k r = Ok r
walk_from n links (c ∷ w) k r = elim (letter_of c) [
  | None ↦ Err (NotALetter k)
  | Some g ↦ elim (leads_to n g (at links r)) [ None ↦ Err (EmptyEdge k) | Some q ↦ walk_from n links w (k + 1) q ]
]

abbrev pub walk : ℕ → List Link → List ℕ → Result ℕ Refusal
walk n links word = elim (nat_le (length word) 1000) [ true ↦ walk_from n links word 0 0 | false ↦ Err Length ]

abbrev pub followed : List Link → List ℕ → Result ℕ Refusal
followed links word = walk (length links) links word

abbrev pub aimed : Letter → ℕ → Link → Link
aimed T n l = record { t = n; s = l.s; parent = l.parent; letter = l.letter }
aimed S n l = record { t = l.t; s = n; parent = l.parent; letter = l.letter }

abbrev pub linked : List Link → ℕ → Letter → ℕ → List Link
linked links r g n = slice_set links r (aimed g n (at links r))

-- by its tests: memory as lent, an edge left, sound links
abbrev pub close_by : (lent left good : Bool) → List Link → Result (List Link) Refusal
close_by false left good links = Err Memory
close_by true true good links = Err Unfilled
close_by true false false links = Err Unsound
close_by true false true links = Ok links

abbrev pub lendable : ℕ → ℕ → Bool
lendable n m = (nat_lt 0 n && nat_le n 65000) && n == m

module _ {R : Type 0} where
  abbrev pub as_lent : Growing R → Bool
  as_lent m = length m.rows == m.counts.size && length m.links == m.counts.size

  abbrev pub edge_left : Growing R → Bool
  edge_left m = nat_lt m.counts.filled (2 * m.counts.held)

  abbrev pub row_free : Growing R → Bool
  row_free m = nat_lt m.counts.held m.counts.size

  abbrev pub next_row : Growing R → ℕ
  next_row m = m.counts.filled / 2

  abbrev pub next_letter : Growing R → Letter
  next_letter m = letter_at m.counts.filled

  abbrev pub following : Growing R → List ℕ → Result ℕ Refusal
  following m word = elim (as_lent m) [ true ↦ walk m.counts.held m.links word | false ↦ Err Memory ]

  abbrev pub closing : Growing R → Result (List Link) Refusal
  closing m = close_by (as_lent m) (edge_left m) (sound (take m.counts.held m.links)) (take m.counts.held m.links)

module _ {R : Type 0} (t s : R → R) where
  abbrev pub step : Letter → R → R
  step T p = t p
  step S p = s p

module _ {R : Type 0} (agrees : R → R → Bool) where
  abbrev pub sought : List R → R → ℕ
  sought [] p = 0
  sought (q ∷ qs) p = elim (agrees q p) [ true ↦ 0 | false ↦ suc (sought qs p) ]

module _ {R : Type 0} (start : R) where
  abbrev pub open_by : (lent : Bool) → List R → List Link → Opened R
  open_by true rows links = record {
    answer = Ok (record { size = length rows; held = 1; filled = 0 });
    rows = slice_set rows 0 start;
    links = slice_set links 0 (empty 0 T);
  }
  open_by false rows links = record { answer = Err Memory; rows = rows; links = links }

  abbrev pub opened : List R → List Link → Opened R
  opened rows links = open_by (lendable (length rows) (length links)) rows links

  module _ (t s : R → R) (agrees : R → R → Bool) (m : Growing R) where
    abbrev pub made : R
    made = step t s (next_letter m) (slice_index_or m.rows (next_row m) start)

    abbrev pub found : ℕ
    found = sought agrees (take m.counts.held m.rows) made

    abbrev pub agreed : Bool
    agreed = nat_lt found m.counts.held

    -- by its tests: memory as lent, an edge left, a row that agrees, a free row
    abbrev pub fill_by : (lent left old free : Bool) → After R Filled
    fill_by false left old free = record { answer = Err Memory; memory = m }
    fill_by true false old free = record { answer = Err NoEdgeLeft; memory = m }
    fill_by true true true free = record {
      answer = Ok (record { row = found; new = false });
      memory = record {
        counts = record { size = m.counts.size; held = m.counts.held; filled = m.counts.filled + 1 };
        rows = m.rows;
        links = linked m.links (next_row m) (next_letter m) found;
      };
    }
    fill_by true true false false = record { answer = Err NoFreeRow; memory = m }
    fill_by true true false true = record {
      answer = Ok (record { row = m.counts.held; new = true });
      memory = record {
        counts = record { size = m.counts.size; held = m.counts.held + 1; filled = m.counts.filled + 1 };
        rows = slice_set m.rows m.counts.held made;
        links = linked (slice_set m.links m.counts.held (empty (next_row m) (next_letter m))) (next_row m) (next_letter m) m.counts.held;
      };
    }

    abbrev pub filling : After R Filled
    filling = fill_by (as_lent m) (edge_left m) agreed (row_free m)

pub data FilledOn {R : Type 0} (start : R) (t s : R → R) (agrees : R → R → Bool) (m : Growing R) : Growing R → Type 0 where
  none : FilledOn start t s agrees m m
  more : (n : Growing R) (a : Filled) → FilledOn start t s agrees m n → (filling start t s agrees n).answer ≡ Ok a
      → FilledOn start t s agrees m (filling start t s agrees n).memory
