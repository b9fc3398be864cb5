-- The row sought, told by the first row that agrees.
use Rattle.std.proofs.Common.{◌≡◌, ℕ, suc, ◌<◌, Bool, true, false, List, length, Some, None, Option, MatchOption, sym, refl, ap, ◌∙◌, add-one}
use Rattle.std.specs.Option.{unwrap_or}
use Rattle.std.specs.List.{AllWithin, HoldsAt}
use Rattle.std.proofs.lemmas.Iterator.{index_from_first}
use Rattle.table.specs.Growing.{sought}

module _ {R : Type 0} (agrees : R → R → Bool) (p : R) where
  abbrev pub Yes : R → Type 0
  Yes q = agrees q p ≡ true

  abbrev pub No : R → Type 0
  No q = agrees q p ≡ false

  -- the row sought, by whether the first row agrees, where it is n among the others
  abbrev by : ℕ → Bool → ℕ
  by n b = elim b [ true ↦ 0 | false ↦ suc n ]

  place : (qs : List R) (r : Option ℕ) → MatchOption r (AllWithin No qs 0 (length qs)) (λ i. (i < length qs) × HoldsAt Yes qs i × AllWithin No qs 0 i) → sought agrees qs p ≡ unwrap_or r (length qs)
  place qs r h =
      index_from_first (λ qs. sought agrees qs p) Yes No refl (λ q qs e. ap (by (sought agrees qs p)) e)
      (λ q qs e. ap (by (sought agrees qs p)) e ∙ sym (add-one (sought agrees qs p))) qs r h

  -- the first place where one agrees, if there is one
  pub sought_first : (qs : List R) (r : Option ℕ) → MatchOption r (AllWithin No qs 0 (length qs)) (λ i. (i < length qs) × HoldsAt Yes qs i × AllWithin No qs 0 i)
      → MatchOption r (sought agrees qs p ≡ length qs) (λ i. (i < length qs) × (i ≡ sought agrees qs p))
  sought_first qs None h = place qs None h
  sought_first qs (Some i) h = (h.0, sym (place qs (Some i) h))
