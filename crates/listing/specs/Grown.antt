-- Growing the whole table of an action, and what its listing tells.
--     Crowded start t s n               more than n points are reachable: n of them, the first in the order of their least words,
--                                       and one more
--     Answered G xs text                the text has a line for each matrix of xs, which says whether it is in G
--     Tabulated start t s xs text       the text is the listing of a finished table of the action: its rows are all reachable
--                                       points, so the cosets of the members, and its last lines say which of the matrices xs
--                                       are members
--     ListedOr start t s room xs r      what closing and listing gives; nothing is said of want of memory
--     GrownIn start t s n k xs r        what growing, closing and listing gives in n rows and k links
--     GrownOr start t s room xs r       the same in memory of its own for so many rows, if that can be had
use Rattle.std.specs.Prelude.{◌≡◌, ℕ, Bool, true, false, ◌⊎◌, List, [], ◌∷◌, ◌++◌, length, Ok, Err, string_bytes, codes, Decides, Result, String}
use Rattle.std.specs.declared.alloc.Global.{Global}
use Rattle.modular.specs.Actions.{Member, Reachable}
use Rattle.modular.specs.Matrix.{M2, det}
use Rattle.table.specs.declared.link.Link.{Link}
use Rattle.table.specs.declared.refusal.Refusal.{Refusal}
use Rattle.table.specs.declared.refusal.Refusal.TheVariants.{NoFreeRow}
use Rattle.table.specs.declared.refusal.Refusal.TheVariants.{Memory as Lent}
use Rattle.table.specs.Cosets.{CosetLaw}
use Rattle.table.specs.Facts.{Finished}
use Rattle.table.specs.Growing.{Growing, lendable}
use Rattle.table.specs.Matrices.{MatrixLaw}
use Rattle.table.specs.Runs.{Event, Run, EveryRun, growing}
use Rattle.table.specs.Order.{Listed, Among}
use Rattle.table.specs.Questions.{is_one, place_by, within}
use Rattle.listing.specs.declared.error.Error.{Error}
use Rattle.listing.specs.declared.error.Error.TheVariants.{Declined, Memory}
use Rattle.listing.specs.Lines.{line, table_lines}

abbrev pub Crowded : {R : Type 0} → R → (R → R) → (R → R) → ℕ → Type 0
Crowded {R} start t s n =
    (ps : List R) × (length ps ≡ n) × Listed start t s ps × (p : R) × Reachable start t s p × (Among start t s ps p → ⊥)

abbrev pub answer_line : Bool → List ℕ
answer_line true = line "member=" (codes "yes" ∷ [])
answer_line false = line "member=" (codes "no" ∷ [])

abbrev pub Answered : (M2 → Type 0) → List M2 → List ℕ → Type 0
Answered G [] text = text ≡ []
Answered G (x ∷ xs) text = (b : Bool) × (rest : List ℕ) × Decides b (G x) × (text ≡ answer_line b ++ rest) × Answered G xs rest

pub record Tabulated {R : Type 0} (start : R) (t s : R → R) (xs : List M2) (text : List ℕ) : Type 0 where
  pub rows : List R
  pub links : List Link
  pub members : List ℕ
  -- the table is a finished one of the action, and its rows are the cosets
  pub finished : Finished start t s rows links
  pub matrices : MatrixLaw start t s links
  pub cosets : CosetLaw start t s links
  -- the text lists it, and then tells the members
  pub told : Answered (Member start t s) xs members
  pub whole : text ≡ table_lines links ++ members

-- what is wrong with a matrix: an entry beyond 10^9, or a determinant that is not 1
abbrev pub Unplaced : M2 → Refusal → Type 0
Unplaced x e = place_by (within 1000000000 x) (is_one (det x)) 0 ≡ Err e

-- e is the refusal of the first matrix that has one
abbrev pub FirstUnplaced : List M2 → Refusal → Type 0
FirstUnplaced [] e = ⊥
FirstUnplaced (x ∷ xs) e = Unplaced x e ⊎ (((f : Refusal) → Unplaced x f → ⊥) × FirstUnplaced xs e)

-- what closing and listing a table with so many lent rows gives, once no fill is accepted any more: the listing; or that there
-- are too many rows for it, or a matrix that is declined
abbrev pub ListedOr : {R : Type 0} → R → (R → R) → (R → R) → ℕ → List M2 → Result (String Global) Error → Type 0
ListedOr start t s room xs (Ok text) = Tabulated start t s xs (string_bytes text)
ListedOr start t s room xs (Err (Declined e)) = ((e ≡ NoFreeRow) × Crowded start t s room) ⊎ FirstUnplaced xs e
ListedOr start t s room xs (Err Memory) = Unit {0}

-- so it is for every table m that a run leads to
abbrev pub Finishes : {R : Type 0} → R → (R → R) → (R → R) → (R → R → Bool) → Growing R → List M2 → Result (String Global) Error → Type 0
Finishes {R} start t s agrees m xs r =
    (size : ℕ) (first : Growing R) (es : List (Event R size)) → EveryRun start t s agrees size first → Run start t s agrees size first (growing m) es
    → length m.rows ≡ m.counts.size → length m.links ≡ m.counts.size → ListedOr start t s m.counts.size xs r

-- what growing in n rows and k links gives: nothing, where a table cannot be opened over them
abbrev pub GrownIn : {R : Type 0} → R → (R → R) → (R → R) → ℕ → ℕ → List M2 → Result (String Global) Error → Type 0
GrownIn start t s n k xs r = ((lendable n k ≡ false) × (r ≡ Err (Declined Lent))) ⊎ ((lendable n k ≡ true) × ListedOr start t s n xs r)

abbrev pub GrownOr : {R : Type 0} → R → (R → R) → (R → R) → ℕ → List M2 → Result (String Global) Error → Type 0
GrownOr start t s room xs r = GrownIn start t s room room xs r ⊎ (r ≡ Err Memory)
