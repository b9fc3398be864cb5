-- A table that is filled as far as it goes, closed and listed.
use Rattle.std.proofs.Common.{◌≡◌, ℕ, ◌*◌, ◌<◌, Bool, true, false, eqb, List, [], ◌∷◌, ◌++◌, length, get_or, take, Ok, Err, string_bytes, Decides, Result, String, sym, refl, ap, ◌∙◌, subst, inl, inr, append_assoc, append-nil, arith, MatchResult}
use Rattle.std.proofs.lemmas.List.{length-take-le, get_or-take, get_or_default}
use Rattle.std.proofs.lemmas.Bool.Decides.{Decides-eqb}
use Rattle.modular.specs.declared.letter.Letter.{Letter}
use Rattle.modular.specs.declared.letter.Letter.TheVariants.{T, S}
use Rattle.modular.specs.Actions.{Member, Reachable}
use Rattle.modular.specs.Matrix.{M2, det}
use Rattle.modular.proofs.Reaching.{has_word}
use Rattle.modular.proofs.Through.{lead_append}
use Rattle.table.specs.declared.link.Link.{Link}
use Rattle.table.specs.declared.refusal.Refusal.{Refusal}
use Rattle.table.specs.declared.refusal.Refusal.TheVariants.{NoFreeRow}
use Rattle.table.specs.Facts.{Growth, Steps}
use Rattle.table.specs.Growing.{Growing, FilledOn, none, more, filling, closing, next_row, next_letter, step}
use Rattle.table.specs.Questions.{placing, place_by, within, is_one}
use Rattle.table.specs.Placing.{placed}
use Rattle.table.specs.Runs.{Event, Run, EveryRun, growing, finished, call, answered, called, fill, close, own, place, closed}
use Rattle.std.specs.declared.alloc.Global.{Global}
use Rattle.listing.specs.declared.error.Error.{Error}
use Rattle.listing.specs.declared.error.Error.TheVariants.{Declined, Memory}
use Rattle.listing.specs.Errors.{Tells}
use Rattle.listing.specs.Grown.{Crowded, Answered, answer_line, FirstUnplaced, ListedOr}
use Rattle.listing.specs.Lines.{member_line, member_lines, table_lines}
use Rattle.listing.specs.Lines as lines

-- the lines of a matrix and of those after it, by where it is placed
abbrev going : List Link → List ℕ → List M2 → Result ℕ Refusal → Result (List ℕ) Refusal
going links text xs o = elim o [ Ok r ↦ member_lines links (text ++ member_line r) xs | Err e ↦ Err e ]

-- the line of a member by whether the row is 0
member_line_told : (r : ℕ) → member_line r ≡ answer_line (eqb r 0)
member_line_told r = by (eqb r 0)
  where
    by : (b : Bool) → (elim b [ true ↦ answer_line true | false ↦ answer_line false ]) ≡ answer_line b
    by true = refl
    by false = refl

module _ {R : Type 0} (start : R) (t s : R → R) where
  -- one step further is reachable too
  step_reachable : (g : Letter) (p : R) → Reachable start t s p → Reachable start t s (step t s g p)
  step_reachable T p w = (w.0 ++ T ∷ [], lead_append t s w.0 (T ∷ []) start ∙ ap t w.1)
  step_reachable S p w = (w.0 ++ S ∷ [], lead_append t s w.0 (S ∷ []) start ∙ ap s w.1)

  -- all rows are held, and the next record is none of theirs
  crowded : (m : Growing R) → length m.rows ≡ m.counts.size → Growth start t s m → m.counts.filled < 2 * m.counts.held → m.counts.held ≡ m.counts.size
      → ((r : ℕ) → r < m.counts.held → Steps start t s m.rows (next_letter m) (next_row m) r → ⊥) → Crowded start t s m.counts.size
  crowded m n g left full new = (
    take m.counts.held m.rows,
    long ∙ full,
    g.listed,
    step t s (next_letter m) (get_or m.rows (next_row m) start),
    step_reachable (next_letter m) (get_or m.rows (next_row m) start)
        (g.listed.word (next_row m), (g.listed.of (next_row m) start (omega (arith, long))).leads ∙ get_or-take m.counts.held m.rows (next_row m) start (omega arith)),
    λ a. new a.0 (omega (arith, a.1, long))
        (get_or_default m.rows a.0 start _ (omega (arith, a.1, long)) ∙ sym (get_or-take m.counts.held m.rows a.0 _ (omega (arith, a.1, long))) ∙ a.2),
  )
    where
      long : length (take m.counts.held m.rows) ≡ m.counts.held
      long = length-take-le m.counts.held m.rows (omega arith)

module _ {R : Type 0} (start : R) (t s : R → R) (agrees : R → R → Bool) (size : ℕ) (first : Growing R) (every : EveryRun start t s agrees size first) where
  -- fills go on from a run
  pub run_on : (m n : Growing R) (es : List (Event R size)) → Run start t s agrees size first (growing m) es → FilledOn start t s agrees m n
      → (fs : List (Event R size)) × Run start t s agrees size first (growing n) fs
  run_on m n es run none = (es, run)
  run_on m n es run (more k a w h) = (_, called (run_on m k es run w).1 (fill own))

  -- and a close that is accepted finishes the table
  pub run_closed : (m : Growing R) (es : List (Event R size)) (links : List Link) → Run start t s agrees size first (growing m) es → closing m ≡ Ok links
      → (fs : List (Event R size)) × Run start t s agrees size first (finished (take m.counts.held m.rows) links) fs
  run_closed m es links run e =
      let fs : List (Event R size) = call (close own) (answered start t s agrees {size = size} m (close own)) ∷ es in
      (fs, subst (λ a. Run start t s agrees size first (closed m a) fs) e (called run (close own)))

  -- where neither a fill nor the close is accepted, the rows do not suffice
  pub run_crowded : (m : Growing R) (es : List (Event R size)) (x y : Refusal) → Run start t s agrees size first (growing m) es → length m.rows ≡ m.counts.size
      → (filling start t s agrees m).answer ≡ Err x → closing m ≡ Err y → (x ≡ NoFreeRow) × Crowded start t s m.counts.size
  run_crowded m es x y run n e f =
      let g = (every.holds (growing m) es run).0 in
      let c = (every.calls m es run (close own)).1 y f in
      elim ((every.calls m es run (fill own)).2 x e).1 [
        | inl p ↦ absurd (omega (arith, c.1, p.1))
        | inr p ↦ (p.0, crowded start t s m n g c.1 p.1 p.2)
      ]

  -- the matrices of a finished table
  module _ (rows : List R) (links : List Link) (es : List (Event R size)) (run : Run start t s agrees size first (finished rows links) es) where
    -- a matrix is a member exactly when it is placed at row 0
    member_at : (x : M2) (r : ℕ) → placing links x ≡ Ok r → Decides (eqb r 0) (Member start t s x)
    member_at x r h =
        let p = every.questions rows links es run (place x) r h in
        let w = has_word x p.0 in
        let l = (every.matrices rows links es run).members w.0 in
        let q = (p.1 w.0 w.1).0 in (
          λ b. subst (Member start t s) w.1 (l.1 (q ∙ (Decides-eqb r 0).0 b)),
          λ m. (Decides-eqb r 0).1 (sym q ∙ l.0 (subst (Member start t s) (sym w.1) m)),
        )

    -- the lines after the table tell the members
    pub members_told : (xs : List M2) (text out : List ℕ) → member_lines links text xs ≡ Ok out
        → (ms : List ℕ) × (out ≡ text ++ ms) × Answered (Member start t s) xs ms
    members_told [] text out h = ([], (cc) ∙ sym (append-nil text), refl)
    members_told (x ∷ xs) text out h = by (members_told xs) (placing links x) refl h
      where
        by : ((text out : List ℕ) → member_lines links text xs ≡ Ok out → (ms : List ℕ) × (out ≡ text ++ ms) × Answered (Member start t s) xs ms)
            → (o : Result ℕ Refusal) → placing links x ≡ o → going links text xs o ≡ Ok out
            → (ms : List ℕ) × (out ≡ text ++ ms) × Answered (Member start t s) (x ∷ xs) ms
        by told (Ok r) e h =
            let p = told (text ++ member_line r) out h in
            (member_line r ++ p.0, p.1 ∙ append_assoc text (member_line r) p.0, (eqb r 0, p.0, member_at x r e, ap (λ l. l ++ p.0) (member_line_told r), p.2))
        by told (Err f) e h = cc

-- a matrix is declined whatever the links are
declined_by : (a b : Bool) (r q : ℕ) (e : Refusal) → place_by a b r ≡ Err e → place_by a b q ≡ Err e
declined_by false b r q e h = h
declined_by true false r q e h = h
declined_by true true r q e h = cc

-- the first matrix that is declined decides
pub first_unplaced : (links : List Link) (xs : List M2) (text : List ℕ) (e : Refusal) → member_lines links text xs ≡ Err e → FirstUnplaced xs e
first_unplaced links [] text e h = cc
first_unplaced links (x ∷ xs) text e h = by (first_unplaced links xs) (placing links x) refl h
  where
    by : ((text : List ℕ) (e : Refusal) → member_lines links text xs ≡ Err e → FirstUnplaced xs e) → (o : Result ℕ Refusal) → placing links x ≡ o → going links text xs o ≡ Err e → FirstUnplaced (x ∷ xs) e
    by rest (Ok r) q h = inr (λ f u. (cc (sym q ∙ declined_by (within 1000000000 x) (is_one (det x)) 0 (placed links x) f u)), rest (text ++ member_line r) e h)
    by rest (Err f) q h = let same : f ≡ e = cc h in inl (declined_by (within 1000000000 x) (is_one (det x)) (placed links x) 0 e (q ∙ ap Err same))

-- the listing of a finished table that a run leads to
pub listed_or : {R : Type 0} (start : R) (t s : R → R) (agrees : R → R → Bool) (size : ℕ) (first : Growing R) → EveryRun start t s agrees size first
    → (rows : List R) (links : List Link) (es : List (Event R size)) → Run start t s agrees size first (finished rows links) es → (room : ℕ) (xs : List M2) (r : Result (String Global) Error)
    → MatchResult r (λ text. lines.listing links xs ≡ Ok (string_bytes text)) (λ e. Tells e (lines.listing links xs)) → ListedOr start t s room xs r
listed_or start t s agrees size first every rows links es run room xs (Ok text) h =
    let p = members_told start t s agrees size first every rows links es run xs (table_lines links) (string_bytes text) h in
    record {
      rows = rows;
      links = links;
      members = p.0;
      finished = (every.holds (finished rows links) es run).0;
      matrices = every.matrices rows links es run;
      cosets = every.cosets rows links es run;
      told = p.2;
      whole = p.1;
    }
listed_or start t s agrees size first every rows links es run room xs (Err (Declined e)) h = inr (first_unplaced links xs (table_lines links) e h)
listed_or start t s agrees size first every rows links es run room xs (Err Memory) h = tt
