-- What holds of a table, told by the action alone: by reachable points, least words and steps.
--     Growth start t s m         of a growing table, at any moment
--     Steps start t s rows g r q the record of row q is what the step of letter g makes of that of row r
--     Kept m m'                  m' comes after m: what is held in m stays as it is
--     Aimed m m' a               the lowest unfilled edge of m leads in m' to the row of a, which is said to be new exactly when m does not hold it
--     Declined start t s m e     what the refusal e of a fill tells of m: every edge is filled, or the record is new and every row is held
--     Finished start t s rows links   of a finished table, whose rows and links were held when it was closed
--     Led start t s rows n word r     the characters word are a word, and it leads to the record of row r, one of n
use Rattle.std.specs.Prelude.{◌≡◌, ℕ, ◌*◌, ◌<◌, ◌≤◌, true, ◌⊎◌, ◌↔◌, List, length, get_or, take, Some, None, ◌≢◌, slice_index_or}
use Rattle.modular.specs.declared.letter.Letter.{Letter}
use Rattle.modular.specs.declared.letter.Letter.TheVariants.{T, S}
use Rattle.modular.specs.Actions.{lead, Member}
use Rattle.modular.specs.Matrix.{M2}
use Rattle.table.specs.declared.counts.Filled.{Filled}
use Rattle.table.specs.declared.link.Link.{Link}
use Rattle.table.specs.declared.refusal.Refusal.{Refusal}
use Rattle.table.specs.declared.refusal.Refusal.TheVariants.{NoEdgeLeft, NoFreeRow}
use Rattle.table.specs.Growing.{Growing, next_row, next_letter, step}
use Rattle.table.specs.Links.{aim, target_of, at, edge, next}
use Rattle.table.specs.Order.{Least, Listed, Whole}
use Rattle.table.specs.Questions.{characters}
use Rattle.table.specs.Soundness.{Sound}

abbrev pub Steps : {R : Type 0} → R → (R → R) → (R → R) → List R → Letter → ℕ → ℕ → Type 0
Steps start t s rows g r q = slice_index_or rows q start ≡ step t s g (slice_index_or rows r start)

pub record Growth {R : Type 0} (start : R) (t s : R → R) (m : Growing R) : Type 0 where
  pub some : 0 < m.counts.held
  pub room : m.counts.held ≤ m.counts.size
  pub within : m.counts.filled ≤ 2 * m.counts.held
  -- the rows are the first points in the order of their least words, from the start on, and no two are equal
  pub first : get_or m.rows 0 start ≡ start
  pub listed : Listed start t s (take m.counts.held m.rows)
  pub apart : (i j : ℕ) → i < j → j < m.counts.held → slice_index_or m.rows i start ≢ slice_index_or m.rows j start
  -- exactly the edges below the count are filled, and each leads to the row whose record its step makes
  pub leads : (r : ℕ) (g : Letter) → edge r g < m.counts.filled
      → (q : ℕ) × (target_of g (at m.links r) ≡ Some q) × (q < m.counts.held) × Steps start t s m.rows g r q
  pub unfilled : (r : ℕ) (g : Letter) → r < m.counts.held → m.counts.filled ≤ edge r g → target_of g (at m.links r) ≡ None

pub record Finished {R : Type 0} (start : R) (t s : R → R) (rows : List R) (links : List Link) : Type 0 where
  pub as_many : length rows ≡ length links
  pub small : length links ≤ 65000
  pub sound : Sound links
  -- the rows are all reachable points in the order of their least words, and no two are equal
  pub listed : Listed start t s rows
  pub whole : Whole start t s rows
  pub apart : (i j : ℕ) → i < j → j < length links → slice_index_or rows i start ≢ slice_index_or rows j start
  -- each edge leads to the row whose record its step makes, and a word to the row to whose record it leads
  pub leads : (g : Letter) (r : ℕ) → r < length links → Steps start t s rows g r (next links g r)
  pub words : (w : List Letter) → slice_index_or rows (lead (next links T) (next links S) w 0) start ≡ lead t s w start
  pub arrives : (w : List Letter) (r : ℕ) → r < length links → (lead (next links T) (next links S) w 0 ≡ r) ↔ (lead t s w start ≡ slice_index_or rows r start)
  -- so a word is the least one to a row exactly when it is the least one to its record
  pub least : (w : List Letter) (r : ℕ) → r < length links → Least 0 (next links T) (next links S) w r ↔ Least start t s w (slice_index_or rows r start)
  -- a word leads row 0 to itself exactly when it leads the start to itself, and the members are those of the links
  pub loops : (w : List Letter) → (lead (next links T) (next links S) w 0 ≡ 0) ↔ (lead t s w start ≡ start)
  pub members : (M : M2) → Member 0 (next links T) (next links S) M ↔ Member start t s M

pub record Kept {R : Type 0} (m m' : Growing R) : Type 0 where
  pub more : m.counts.held ≤ m'.counts.held
  pub rows : take m.counts.held m'.rows ≡ take m.counts.held m.rows
  pub parents : (r : ℕ) → r < m.counts.held → (at m'.links r).parent ≡ (at m.links r).parent
  pub letters : (r : ℕ) → r < m.counts.held → (at m'.links r).letter ≡ (at m.links r).letter
  pub edges : (r : ℕ) (g : Letter) → edge r g < m.counts.filled → aim g (at m'.links r) ≡ aim g (at m.links r)

pub record Aimed {R : Type 0} (m m' : Growing R) (a : Filled) : Type 0 where
  pub leads : target_of (next_letter m) (at m'.links (next_row m)) ≡ Some a.row
  pub new : (a.new ≡ true) ↔ (m.counts.held ≤ a.row)

abbrev pub Declined : {R : Type 0} → R → (R → R) → (R → R) → Growing R → Refusal → Type 0
Declined start t s m e =
    ((e ≡ NoEdgeLeft) × (m.counts.filled ≡ 2 * m.counts.held))
    ⊎ ((e ≡ NoFreeRow) × (m.counts.held ≡ m.counts.size) × ((r : ℕ) → r < m.counts.held → Steps start t s m.rows (next_letter m) (next_row m) r → ⊥))

pub record Led {R : Type 0} (start : R) (t s : R → R) (rows : List R) (n : ℕ) (word : List ℕ) (r : ℕ) : Type 0 where
  pub letters : List Letter
  pub reads : word ≡ characters letters
  pub row : r < n
  pub leads : get_or rows r start ≡ lead t s letters start
