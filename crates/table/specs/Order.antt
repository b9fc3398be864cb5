-- The order of words, and the points of an action in the order of their least words.
--     Less u v               u is shorter than v, or as long and earlier in the alphabet, where T comes before S
--     Least start t s w p    w leads from the start to p, and no lesser word does
--     Listed start t s ps    the points ps are the first of all reachable points in the order of their least words
--     Whole start t s ps     every reachable point is among ps
use Rattle.std.specs.Prelude.{◌≡◌, ℕ, ◌<◌, ◌⊎◌, List, [], ◌∷◌, length, slice_index_or}
use Rattle.modular.specs.declared.letter.Letter.{Letter}
use Rattle.modular.specs.declared.letter.Letter.TheVariants.{T, S}
use Rattle.modular.specs.Actions.{lead, Reachable}

abbrev pub Earlier : List Letter → List Letter → Type 0
Earlier [] v = ⊥
Earlier (g ∷ u) [] = ⊥
Earlier (T ∷ u) (T ∷ v) = Earlier u v
Earlier (T ∷ u) (S ∷ v) = Unit {0}
Earlier (S ∷ u) (T ∷ v) = ⊥
Earlier (S ∷ u) (S ∷ v) = Earlier u v

abbrev pub Less : List Letter → List Letter → Type 0
Less u v = (length u < length v) ⊎ ((length u ≡ length v) × Earlier u v)

module _ {R : Type 0} (start : R) (t s : R → R) where
  pub record Least (w : List Letter) (p : R) : Type 0 where
    pub leads : lead t s w start ≡ p
    pub least : (v : List Letter) → lead t s v start ≡ p → Less v w → ⊥

  -- p is one of ps
  abbrev pub Among : List R → R → Type 0
  Among ps p = (i : ℕ) × (i < length ps) × (slice_index_or ps i p ≡ p)

  -- word i is the least word of point i
  pub record Listed (ps : List R) : Type 0 where
    pub word : ℕ → List Letter
    pub of : (i : ℕ) (d : R) → i < length ps → Least (word i) (slice_index_or ps i d)
    pub rise : (i j : ℕ) → i < j → j < length ps → Less (word i) (word j)
    pub beyond : (p : R) (w : List Letter) → Least w p → (Among ps p → ⊥) → (i : ℕ) → i < length ps → Less (word i) w

  abbrev pub Whole : List R → Type 0
  Whole ps = (p : R) → Reachable start t s p → Among ps p
