-- One line more: what a turn of a loop adds to the text.
use Rattle.std.proofs.Common.{◌≡◌, ℕ, ◌+◌, ◌<◌, ◌≤◌, List, [], ◌++◌, map, length, get_or, drop, ℤ, Ok, Err, Result, sym, ap, ◌∙◌, append_assoc, add-one}
use Rattle.std.proofs.lemmas.List.{drop_more, drop_all}
use Rattle.modular.specs.Matrix.{entries}
use Rattle.table.specs.declared.link.Link.{Link}
use Rattle.table.specs.declared.refusal.Refusal.{Refusal}
use Rattle.table.specs.Questions.{placing}
use Rattle.listing.specs.Lines.{each, member_line, member_lines}

pub each_more : (f : ℕ → List ℕ) (n : ℕ) (was before after : List ℕ) → before ≡ was ++ each f n → after ≡ before ++ f n → after ≡ was ++ each f (n + 1)
each_more f n was before after p q =
    q ∙ ap (λ l. l ++ f n) p ∙ append_assoc was (each f n) (f n) ∙ ap (λ m. was ++ each f m) (sym (add-one n))

-- the lines of matrices, from the one with the index i on
module _ (links : List Link) (ms : List (List (List ℤ))) (i : ℕ) (text : List ℕ) where
  abbrev from : List ℕ → ℕ → Result (List ℕ) Refusal
  from t k = member_lines links t (map entries (drop k ms))

  -- by where the first of them is placed
  abbrev by : Result ℕ Refusal → Result (List ℕ) Refusal
  by v = elim v [ Ok r ↦ from (text ++ member_line r) (i + 1) | Err e ↦ Err e ]

  first : i < length ms → from text i ≡ by (placing links (entries (get_or ms i [])))
  first h = ap (λ l. member_lines links text (map entries l)) (drop_more ms i [] h)

  pub placed_more : (r : ℕ) (after : List ℕ) → i < length ms → Ok r ≡ placing links (entries (get_or ms i [])) → after ≡ text ++ member_line r → from after (i + 1) ≡ from text i
  placed_more r after h p q = ap (λ t. from t (i + 1)) q ∙ ap by p ∙ sym (first h)

  pub declined_here : (e : Refusal) → i < length ms → Err e ≡ placing links (entries (get_or ms i [])) → from text i ≡ Err e
  declined_here e h p = first h ∙ sym (ap by p)

  pub none_left : length ms ≤ i → from text i ≡ Ok text
  none_left h = ap (λ l. member_lines links text (map entries l)) (drop_all i ms h)
