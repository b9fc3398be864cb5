-- Texts as lists of bytes.
--     Lacks x bs            no byte of bs is x
--     Split x bs u v        bs is u, then the first x, then v
use Rattle.std.specs.Prelude.{◌≡◌, ℕ, ◌<◌, List, ◌∷◌, ◌++◌, length, ◌≢◌, slice_index}

abbrev pub Lacks : ℕ → List ℕ → Type 0
Lacks x bs = (k : ℕ) → k < length bs → slice_index bs k ≢ x

pub record Split (x : ℕ) (bs u v : List ℕ) : Type 0 where
  pub whole : bs ≡ u ++ x ∷ v
  pub first : Lacks x u

-- the first line of bs is key, body and a line feed, and rest comes after it
pub record Keyed (key bs body rest : List ℕ) : Type 0 where
  pub whole : bs ≡ (key ++ body) ++ 10 ∷ rest
  pub line : Lacks 10 (key ++ body)

-- the first line of bs does not begin with key, or has no line feed
abbrev pub Unkeyed : List ℕ → List ℕ → Type 0
Unkeyed key bs = (body rest : List ℕ) → Keyed key bs body rest → ⊥
