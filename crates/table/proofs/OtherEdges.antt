-- The edges that are no tree edges, in their order.
use Rattle.std.proofs.Common.{◌≡◌, ℕ, zero, suc, ◌+◌, ◌<◌, ◌≤◌, Bool, true, false, cond, not, List, [], ◌∷◌, ◌++◌, length, get_or, None, sym, refl, ap, ◌∙◌, inl, inr, add-one, append-nil, arith}
use native.Mathlib.Decide.{dec_lt}
use Rattle.std.specs.List.{filter, range_with_len, slice_get}
use Rattle.std.proofs.lemmas.List.{length_push, get_or_push, get_or_append_left, map-id}
use Rattle.std.proofs.lemmas.List.FromFn.{filter_of_map_range_with_len_more}
use Rattle.std.proofs.lemmas.Option.{slice_get_cases, none-some}
use Rattle.table.specs.declared.link.Link.{Link}
use Rattle.table.specs.Generators.{is_tree, other_below}

module _ (links : List Link) where
  abbrev pub is_other : ℕ → Bool
  is_other n = not (is_tree links n)

  more : (b : Bool) (xs : List ℕ) (n : ℕ) → xs ++ cond (not b) (n ∷ []) [] ≡ cond b xs (xs ++ n ∷ [])
  more true xs n = append-nil xs
  more false xs n = refl

  -- they are what passes among all edges
  pub others_filter : (n : ℕ) → filter is_other (range_with_len 0 n) ≡ other_below links n
  others_filter zero = refl
  others_filter (suc n) =
      ap (λ k. filter is_other (range_with_len 0 k)) (sym (add-one n))
      ∙ ap (filter is_other) (sym (map-id (range_with_len 0 (n + 1))))
      ∙ filter_of_map_range_with_len_more is_other (λ k. k) 0 n n (omega arith)
      ∙ ap (λ l. filter is_other l ++ cond (is_other n) (n ∷ []) []) (map-id (range_with_len 0 n))
      ∙ more (is_tree links n) (filter is_other (range_with_len 0 n)) n
      ∙ ap (λ l. cond (is_tree links n) l (l ++ n ∷ [])) (others_filter n)

  -- each is one of the edges
  pub others_small : (n k : ℕ) → k < length (other_below links n) → get_or (other_below links n) k 0 < n
  others_small zero k h = absurd (omega arith)
  others_small (suc n) k h = by (is_tree links n) h (others_small n k)
    where
      by : (b : Bool) → k < length (cond b (other_below links n) (other_below links n ++ n ∷ [])) → (k < length (other_below links n) → get_or (other_below links n) k 0 < n)
          → get_or (cond b (other_below links n) (other_below links n ++ n ∷ [])) k 0 < suc n
      by true h f = let x = f h in omega arith
      by false h f = elim (dec_lt k (length (other_below links n))) [
        | yes l ↦ omega (arith, f l, get_or_append_left (other_below links n) (n ∷ []) 0 k l)
        | no l ↦ omega (arith, get_or_push (other_below links n) n 0 k (omega (arith, h, length_push (other_below links n) n)))
      ]

-- what is not found is past the end
pub past_end : (xs : List ℕ) (k : ℕ) → slice_get xs k ≡ None → length xs ≤ k
past_end xs k e = elim (slice_get_cases xs k).1 [
  | inl w ↦ absurd (none-some w.0 (sym e ∙ w.2))
  | inr w ↦ w.0
]
