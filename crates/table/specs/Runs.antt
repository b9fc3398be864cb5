-- Runs of a table: any calls after an accepted open, with all their inputs and answers, declined ones too.
--     Handed R size        the memory that a call is handed: the table's own, or rows and links of another size than at open
--     Call R size, Answer  a call on a growing table, and what is answered
--     Question, Reply      a question to a finished table, and the reply
--     Event R size         either of them
--     Table R              a table at some moment: growing, or finished with the rows and links held at its close
--     started rows links c     the growing table that open made with the counts c
--     over m rows links    the counts of m with other memory
--     lent m h, back m h m'    m with the memory that is handed; m once that memory comes back as in m'
--     closed m a           the table after close answered a
--     answered m c, after m c  the answer of the call c on the growing table m, and the table after it
--     replied links q      the reply to the question q
--     Run size first x es  the events es, the last one first, lead from the growing table first to the table x
--     accepted es, fresh es    how many fills were accepted, and how many of them answered a new row
--     Holds x es           what holds of the table x after the events es
--     Sure m c             what holds of the call c on the growing table m
--     Told rows links q    what holds of the question q to a finished table
--     EveryRun size first  all this holds in every run from the growing table first
--     EveryRunFromOpen     so it is for all memory that open accepts
--     storing links        a finished table from a stored list, by its tests store_by
--     Stored links made    what holds of such a table
--     EveryStoredList      so it is for every stored list that is accepted
use Rattle.std.specs.Prelude.{◌≡◌, ℕ, suc, ◌+◌, ◌*◌, ◌<◌, ◌≤◌, Bool, true, false, ◌&&◌, List, [], ◌∷◌, ◌++◌, length, take, drop, pos, Ok, Err, Result, ◌≢◌, nat_le, nat_lt, slice_index_or}
use Rattle.std.specs.List.{range_with_len}
use Rattle.modular.specs.declared.letter.Letter.{Letter}
use Rattle.modular.specs.declared.letter.Letter.TheVariants.{T, S}
use Rattle.modular.specs.Actions.{lead}
use Rattle.modular.specs.Matrix.{M2, det, identity}
use Rattle.modular.specs.Words.{matrix}
use Rattle.table.specs.declared.counts.Counts.{Counts}
use Rattle.table.specs.declared.counts.Filled.{Filled}
use Rattle.table.specs.declared.link.Link.{Link}
use Rattle.table.specs.declared.refusal.Refusal.{Refusal}
use Rattle.table.specs.declared.refusal.Refusal.TheVariants.{Memory, Unfilled, Unsound, NoSuch}
use Rattle.table.specs.Cosets.{CosetLaw}
use Rattle.table.specs.Facts.{Growth, Kept, Aimed, Declined, Finished, Led}
use Rattle.table.specs.Questions.{characters, Spelled, placing, spelling, generating, measuring}
use Rattle.table.specs.Growing.{Growing, opened, filling, following, followed, closing}
use Rattle.table.specs.Finished.{row_of}
use Rattle.table.specs.Generators.{generators}
use Rattle.table.specs.Links.{next}
use Rattle.table.specs.Matrices.{MatrixLaw}
use Rattle.table.specs.Order.{Least}
use Rattle.table.specs.Shapes.{Shape, shape, CuspLaw}
use Rattle.table.specs.SoundTest.{sound}
use Rattle.table.specs.Widths.{IsWidth}

pub data Handed (R : Type 0) (size : ℕ) : Type 0 where
  own : Handed R size
  other : (rows : List R) (links : List Link) → ((length rows ≡ size) × (length links ≡ size) → ⊥) → Handed R size

pub data Call (R : Type 0) (size : ℕ) : Type 0 where
  fill : Handed R size → Call R size
  follow : Handed R size → List ℕ → Call R size
  close : Handed R size → Call R size

pub data Answer : Type 0 where
  fills : Result Filled Refusal → Answer
  follows : Result ℕ Refusal → Answer
  closes : Result (List Link) Refusal → Answer

pub data Question : Type 0 where
  follow_on : List ℕ → Question
  place : M2 → Question
  spell : ℕ → List ℕ → Question
  generator : ℕ → ℕ → Question
  width_of : ℕ → Question
  shape_of : Question

pub data Reply : Type 0 where
  row : Result ℕ Refusal → Reply
  spells : Spelled → Reply
  generates : Result M2 Refusal → Reply
  measures : Result ℕ Refusal → Reply
  shapes : Shape → Reply

pub data Event (R : Type 0) (size : ℕ) : Type 0 where
  call : Call R size → Answer → Event R size
  ask : Question → Reply → Event R size

pub data Table (R : Type 0) : Type 0 where
  growing : Growing R → Table R
  finished : List R → List Link → Table R

abbrev pub started : {R : Type 0} → R → List R → List Link → Counts → Growing R
started start rows links c = record { counts = c; rows = (opened start rows links).rows; links = (opened start rows links).links }

abbrev pub closed : {R : Type 0} → Growing R → Result (List Link) Refusal → Table R
closed m (Ok links) = finished (take m.counts.held m.rows) links
closed m (Err e) = growing m

abbrev pub over : {R : Type 0} → Growing R → List R → List Link → Growing R
over m rows links = record { counts = m.counts; rows = rows; links = links }

module _ {R : Type 0} {size : ℕ} where
  abbrev pub lent : Growing R → Handed R size → Growing R
  lent m own = m
  lent m (other rows links no-fit) = over m rows links

  abbrev pub back : Growing R → Handed R size → Growing R → Growing R
  back m own m' = m'
  back m (other rows links no-fit) m' = over m' m.rows m.links

  abbrev pub accepted : List (Event R size) → ℕ
  accepted [] = 0
  accepted (call c (fills (Ok a)) ∷ es) = suc (accepted es)
  accepted (call c (fills (Err e)) ∷ es) = accepted es
  accepted (call c (follows a) ∷ es) = accepted es
  accepted (call c (closes a) ∷ es) = accepted es
  accepted (ask q a ∷ es) = accepted es

  abbrev pub fresh : List (Event R size) → ℕ
  fresh [] = 0
  fresh (call c (fills (Ok a)) ∷ es) = elim a.new [ true ↦ suc (fresh es) | false ↦ fresh es ]
  fresh (call c (fills (Err e)) ∷ es) = fresh es
  fresh (call c (follows a) ∷ es) = fresh es
  fresh (call c (closes a) ∷ es) = fresh es
  fresh (ask q a ∷ es) = fresh es

abbrev pub replied : List Link → Question → Reply
replied links (follow_on word) = row (followed links word)
replied links (place x) = row (placing links x)
replied links (spell r out) = spells (spelling links r out)
replied links (generator k limit) = generates (generating links k limit)
replied links (width_of r) = measures (measuring links r)
replied links shape_of = shapes (shape links)

module _ {R : Type 0} (start : R) (t s : R → R) where
  -- rows are one more than the new ones, and the filled edges are the accepted fills
  abbrev pub Holds : {size : ℕ} → Table R → List (Event R size) → Type 0
  Holds (growing m) es = Growth start t s m × (m.counts.held ≡ 1 + fresh es) × (m.counts.filled ≡ accepted es)
  Holds (finished rows links) es = Finished start t s rows links × (length links ≡ 1 + fresh es) × (2 * length links ≡ accepted es)

  -- an accepted follow answers the row to which its word leads, and each word of at most 1,000 letters is followed; an accepted
  -- place answers the row to which every word of its matrix leads; an accepted spell writes the row's least word to the start of
  -- its output and touches nothing behind it; an accepted generator answers the one of its number; declined, nothing is written; an
  -- accepted width is the least positive number of T steps that leads back to the row; the cusps of a shape are the T-cycles
  abbrev pub Told : List R → List Link → Question → Type 0
  Told rows links (follow_on word) =
      ((r : ℕ) → followed links word ≡ Ok r → Led start t s rows (length links) word r)
      × ((w : List Letter) → word ≡ characters w → length word ≤ 1000 → followed links word ≡ Ok (lead (next links T) (next links S) w 0))
  Told rows links (place x) =
      (r : ℕ) → placing links x ≡ Ok r → (det x ≡ pos 1) × ((w : List Letter) → matrix w ≡ x → (row_of links w ≡ r) × (lead t s w start ≡ slice_index_or rows r start))
  Told rows links (spell r out) =
      ((n : ℕ) → (spelling links r out).answer ≡ Ok n →
      (r < length links) × (w : List Letter) × Least start t s w (slice_index_or rows r start) × (length w ≡ n) × ((spelling links r out).out ≡ characters w ++ drop n out))
      × ((e : Refusal) → (spelling links r out).answer ≡ Err e → (spelling links r out).out ≡ out)
  Told rows links (generator k limit) =
      (x : M2) → generating links k limit ≡ Ok x → (k < length (generators links)) × (x ≡ slice_index_or (generators links) k identity)
  Told rows links (width_of r) =
      ((w : ℕ) → measuring links r ≡ Ok w → (r < length links) × IsWidth links r w)
      × ((e : Refusal) → measuring links r ≡ Err e → (e ≡ NoSuch) × (length links ≤ r))
  Told rows links shape_of = CuspLaw links

  module _ (agrees : R → R → Bool) where
    abbrev pub answered : {size : ℕ} → Growing R → Call R size → Answer
    answered m (fill h) = fills (filling start t s agrees (lent m h)).answer
    answered m (follow h word) = follows (following (lent m h) word)
    answered m (close h) = closes (closing (lent m h))

    abbrev pub after : {size : ℕ} → Growing R → Call R size → Table R
    after m (fill h) = growing (back m h (filling start t s agrees (lent m h)).memory)
    after m (follow h word) = growing m
    after m (close h) = closed m (closing (lent m h))

    pub data Run (size : ℕ) (first : Growing R) : Table R → List (Event R size) → Type 0 where
      begun : Run size first (growing first) []
      called : {m : Growing R} {es : List (Event R size)} → Run size first (growing m) es → (c : Call R size) → Run size first (after m c) (call c (answered m c) ∷ es)
      asked : {rows : List R} {links : List Link} {es : List (Event R size)} → Run size first (finished rows links) es → (q : Question)
          → Run size first (finished rows links) (ask q (replied links q) ∷ es)

    -- a fill keeps what is held, answers where its edge leads, and where it is declined writes nothing; a follow answers the row to
    -- which its word leads; close never finds fault, is declined only while an edge is not filled, and gives the held links; with
    -- rows and links of another size each is declined and changes nothing
    abbrev pub Sure : {size : ℕ} → Growing R → Call R size → Type 0
    Sure m (fill own) =
        Kept m (filling start t s agrees m).memory
        × ((a : Filled) → (filling start t s agrees m).answer ≡ Ok a → Aimed m (filling start t s agrees m).memory a)
        × ((e : Refusal) → (filling start t s agrees m).answer ≡ Err e → ((filling start t s agrees m).memory ≡ m) × Declined start t s m e)
    Sure m (fill (other rows links no-fit)) = filling start t s agrees (over m rows links) ≡ record { answer = Err Memory; memory = over m rows links }
    Sure m (follow own word) = (r : ℕ) → following m word ≡ Ok r → Led start t s m.rows m.counts.held word r
    Sure m (follow (other rows links no-fit) word) = following (over m rows links) word ≡ Err Memory
    Sure m (close own) =
        (closing m ≢ Err Unsound)
        × ((e : Refusal) → closing m ≡ Err e → (e ≡ Unfilled) × (m.counts.filled < 2 * m.counts.held))
        × ((links : List Link) → closing m ≡ Ok links → links ≡ take m.counts.held m.links)
    Sure m (close (other rows links no-fit)) = closing (over m rows links) ≡ Err Memory

    pub record EveryRun (size : ℕ) (first : Growing R) : Type 0 where
      pub holds : (x : Table R) (es : List (Event R size)) → Run size first x es → Holds x es
      pub calls : (m : Growing R) (es : List (Event R size)) → Run size first (growing m) es → (c : Call R size) → Sure m c
      pub matrices : (rows : List R) (links : List Link) (es : List (Event R size)) → Run size first (finished rows links) es → MatrixLaw start t s links
      pub cosets : (rows : List R) (links : List Link) (es : List (Event R size)) → Run size first (finished rows links) es → CosetLaw start t s links
      pub questions : (rows : List R) (links : List Link) (es : List (Event R size)) → Run size first (finished rows links) es → (q : Question) → Told rows links q

    abbrev pub EveryRunFromOpen : Type 0
    EveryRunFromOpen = (rows : List R) (links : List Link) (c : Counts) → (opened start rows links).answer ≡ Ok c → EveryRun c.size (started start rows links c)

-- a finished table from a stored list, by its tests: 1 to 65,000 links, sound links
abbrev pub store_by : (few good : Bool) → List Link → Result (List Link) Refusal
store_by false good links = Err Memory
store_by true false links = Err Unsound
store_by true true links = Ok links

abbrev pub storing : List Link → Result (List Link) Refusal
storing links = store_by (nat_lt 0 (length links) && nat_le (length links) 65000) (sound links) links

-- what holds of a table from a stored list, taken as the action on its row numbers: the list is kept as it is, the rows are all
-- reachable points in the order of their least words, and every question is answered as it is for a table that was grown
pub record Stored (links made : List Link) : Type 0 where
  pub kept : made ≡ links
  pub finished : Finished 0 (next links T) (next links S) (range_with_len 0 (length links)) links
  pub matrices : MatrixLaw 0 (next links T) (next links S) links
  pub cosets : CosetLaw 0 (next links T) (next links S) links
  pub questions : (q : Question) → Told 0 (next links T) (next links S) (range_with_len 0 (length links)) links q

abbrev pub EveryStoredList : Type 0
EveryStoredList = (links made : List Link) → storing links ≡ Ok made → Stored links made
