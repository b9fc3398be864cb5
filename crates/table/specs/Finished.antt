-- What holds of sound links, taken as the action on row numbers that they are.
use Rattle.std.specs.Prelude.{◌≡◌, ℕ, ◌+◌, ◌<◌, ◌↔◌, List, length, pos, nat_eq}
use Rattle.std.specs.List.{range_with_len}
use Rattle.modular.specs.declared.letter.Letter.{Letter}
use Rattle.modular.specs.declared.letter.Letter.TheVariants.{T, S}
use Rattle.modular.specs.Actions.{Laws, lead, Member}
use Rattle.modular.specs.Matrix.{M2, det}
use Rattle.modular.specs.Words.{matrix}
use Rattle.table.specs.declared.link.Link.{Link}
use Rattle.table.specs.Acting.{IsRow, word_of}
use Rattle.table.specs.Generators.{generators, Product}
use Rattle.table.specs.Links.{next}
use Rattle.table.specs.Order.{Least, Listed, Whole}
use Rattle.table.specs.Placing.{placed}
use Rattle.table.specs.Shapes.{CuspLaw}
use Rattle.table.specs.Soundness.{Sound}
use Rattle.table.specs.Widths.{IsWidth, width}

-- where a word leads from row 0
abbrev pub row_of : List Link → List Letter → ℕ
row_of links w = lead (next links T) (next links S) w 0

-- x is a member of the action of the links
abbrev pub MemberOfLinks : List Link → M2 → Type 0
MemberOfLinks links x = Member 0 (next links T) (next links S) x

pub record FinishedLaw (links : List Link) : Type 0 where
  -- the row numbers are an action
  pub acts : Laws (IsRow links) 0 (next links T) (next links S) nat_eq
  -- the word of a row is its least word, and the rows stand in the order of these words and are all that is reachable
  pub words : (r : ℕ) → r < length links → Least 0 (next links T) (next links S) (word_of links r) r
  pub listed : Listed 0 (next links T) (next links S) (range_with_len 0 (length links))
  pub whole : Whole 0 (next links T) (next links S) (range_with_len 0 (length links))
  -- two words with one matrix lead to one row, and that is the row at which the matrix is placed
  pub through : (u v : List Letter) → matrix u ≡ matrix v → row_of links u ≡ row_of links v
  pub places : (x : M2) → det x ≡ pos 1 → (w : List Letter) → matrix w ≡ x → row_of links w ≡ placed links x
  -- a matrix of determinant 1 is a member exactly when its words lead to row 0, so exactly when it is placed there
  pub members : (w : List Letter) → MemberOfLinks links (matrix w) ↔ (row_of links w ≡ 0)
  pub placed_members : (x : M2) → det x ≡ pos 1 → MemberOfLinks links x ↔ (placed links x ≡ 0)
  -- a matrix is a member exactly when it is a product of the generators, and these are one more than the rows
  pub generated : (x : M2) → MemberOfLinks links x ↔ Product (generators links) x
  pub count : length (generators links) ≡ length links + 1
  -- the width of a row is the least positive number of T steps that leads back to it
  pub widths : (r : ℕ) → r < length links → IsWidth links r (width links r)
  -- the cusps are the T-cycles: each row is in exactly one, and their widths add up to the rows
  pub cusps : CuspLaw links

abbrev pub SoundLinksLaw : Type 0
SoundLinksLaw = (links : List Link) → Sound links → FinishedLaw links
