-- A table from a stored list of sound links is a finished table of the action that it is.
use Rattle.std.proofs.Common.{◌≡◌, ℕ, ◌<◌, ◌≤◌, Bool, true, false, ◌&&◌, eqb, ltb, leb, List, length, get_or, Ok, sym, refl, ap, ◌∙◌, subst, arith, leb-true}
use Rattle.std.proofs.lemmas.List.FromFn.{length-range_with_len, get_or-range_with_len}
use Rattle.std.proofs.lemmas.Bool.{and_parts}
use Rattle.std.specs.List.{range_with_len}
use Rattle.modular.specs.declared.letter.Letter.{Letter}
use Rattle.modular.specs.declared.letter.Letter.TheVariants.{T, S}
use Rattle.table.specs.declared.link.Link.{Link}
use Rattle.table.specs.Facts.{Finished}
use Rattle.table.specs.Growing.{step}
use Rattle.table.specs.Links.{next}
use Rattle.table.specs.Order.{Least}
use Rattle.table.specs.Runs.{store_by, EveryStoredList}
use Rattle.table.specs.SoundTest.{sound}
use Rattle.table.specs.Soundness.{Sound}
use Rattle.table.proofs.Cosets.{coset_law}
use Rattle.table.proofs.Asked.{matrix_law}
use Rattle.table.proofs.EveryRun.{question_sure}
use Rattle.table.proofs.SoundRows.{lead_row, rows_listed, rows_whole}
use Rattle.table.proofs.SoundTested.{sound_tells}

store_tests : (a b : Bool) (links made : List Link) → store_by a b links ≡ Ok made → (a ≡ true) × (b ≡ true) × (made ≡ links)
store_tests false b links made e = let w : ◌≡◌ {A = ℕ} 0 1 = cc in absurd (omega arith)
store_tests true false links made e = let w : ◌≡◌ {A = ℕ} 0 1 = cc in absurd (omega arith)
store_tests true true links made e = (refl, refl, (cc))

module _ (links : List Link) (k : Sound links) where
  abbrev rows : List ℕ
  rows = range_with_len 0 (length links)

  -- row r stands for itself
  at_row : (r : ℕ) → r < length links → get_or rows r 0 ≡ r
  at_row r h = get_or-range_with_len 0 (length links) r 0 h ∙ omega arith

  steps : (g : Letter) (r : ℕ) → step (next links T) (next links S) g r ≡ next links g r
  steps T r = refl
  steps S r = refl

  stored_finished : length links ≤ 65000 → Finished 0 (next links T) (next links S) rows links
  stored_finished few = record {
    as_many = length-range_with_len 0 (length links);
    small = few;
    sound = k;
    listed = rows_listed links k;
    whole = rows_whole links k;
    apart = λ i j h l e. let a = at_row i (omega arith) in let b = at_row j l in omega arith;
    leads = λ g r h. at_row (next links g r) (k.below g r h) ∙ sym (steps g r) ∙ ap (step (next links T) (next links S) g) (sym (at_row r h));
    words = λ w. at_row _ (lead_row links k w 0 k.some);
    arrives = λ w r h. (λ e. e ∙ sym (at_row r h), λ e. e ∙ at_row r h);
    least = λ w r h. (
      λ l. subst (Least 0 (next links T) (next links S) w) (sym (at_row r h)) l,
      λ l. subst (Least 0 (next links T) (next links S) w) (at_row r h) l,
    );
    loops = λ w. (λ e. e, λ e. e);
    members = λ M. (λ m. m, λ m. m);
  }

pub every_stored_list : EveryStoredList
every_stored_list links made e =
    let p = store_tests (ltb 0 (length links) && leb (length links) 65000) (sound links) links made e in
    let k = (sound_tells links).0 p.1 in
    let f = stored_finished links k (leb-true (length links) 65000 (and_parts _ _ p.0).1) in
    record {
      kept = p.2;
      finished = f;
      matrices = matrix_law 0 (next links T) (next links S) (range_with_len 0 (length links)) links f;
      cosets = coset_law 0 (next links T) (next links S) links k (matrix_law 0 (next links T) (next links S) (range_with_len 0 (length links)) links f);
      questions = question_sure 0 (next links T) (next links S) eqb (range_with_len 0 (length links)) links f;
    }
