-- The entries of a padded list.
use Rattle.std.specs.Prelude.{◌≡◌, ℕ, ◌<◌, ◌≤◌, cond, List, length, nat_lt, slice_index}
use Rattle.std.proofs.Common.{sym, ◌∙◌, ap, inl, inr, arith}
use Rattle.std.proofs.lemmas.List.FromFn.{length-map-range_with_len, get_or-map-range_with_len}
use Rattle.std.proofs.lemmas.List.{ext_get_or}
use Rattle.std.proofs.lemmas.Bool.{cases_lt, cond-true, cond-false, lt-ltb, le-ltb}
use Rattle.origami.specs.Gluings.{padded}

pub padded_length : (d : ℕ) (h : ℕ → ℕ) → length (padded d h) ≡ 16
unfolding padded
padded_length d h = length-map-range_with_len (λ k. cond (nat_lt k d) (h k) 0) 0 16

pub padded_entry : (d : ℕ) (h : ℕ → ℕ) (k : ℕ) → k < 16 → slice_index (padded d h) k ≡ cond (nat_lt k d) (h k) 0
unfolding padded
padded_entry d h k l = get_or-map-range_with_len (λ k. cond (nat_lt k d) (h k) 0) 0 16 k k 0 l (omega arith)

pub padded_at : (d : ℕ) (h : ℕ → ℕ) → d ≤ 16 → (k : ℕ) → k < d → slice_index (padded d h) k ≡ h k
padded_at d h few k l = padded_entry d h k (omega arith) ∙ cond-true (nat_lt k d) (h k) 0 (lt-ltb k d l)

-- a list with the entries of a padded one is that
pub padded_is : (d : ℕ) (h : ℕ → ℕ) (xs : List ℕ) → length xs ≡ 16 → ((k : ℕ) → k < 16 → slice_index xs k ≡ cond (nat_lt k d) (h k) 0) → xs ≡ padded d h
padded_is d h xs e same = ext_get_or 0 xs (padded d h) (e ∙ sym (padded_length d h))
    (λ k l. same k (omega arith) ∙ sym (padded_entry d h k (omega arith)))

-- only the values below d are read
pub padded_cong : (d : ℕ) (h h' : ℕ → ℕ) → ((k : ℕ) → k < d → h k ≡ h' k) → padded d h ≡ padded d h'
padded_cong d h h' same = padded_is d h' (padded d h) (padded_length d h) (λ k l. padded_entry d h k l ∙ entry k)
  where
    entry : (k : ℕ) → cond (nat_lt k d) (h k) 0 ≡ cond (nat_lt k d) (h' k) 0
    entry k = elim (cases_lt k d) [
      | inl l ↦ ap (λ v. cond (nat_lt k d) v 0) (same k l)
      | inr l ↦ cond-false (nat_lt k d) (h k) 0 (le-ltb k d l) ∙ sym (cond-false (nat_lt k d) (h' k) 0 (le-ltb k d l))
    ]
