-- What an action of the modular group is: records, some of them points, a first one, and two steps that keep two laws.
--     Laws Point start t s agrees   the laws that every action shows
--     lead t s w p                  where the word w leads from p, left letter first
--     Reachable start t s p         some word leads from the start to p
--     Member start t s M            some word of M leads the start back to itself
use Rattle.std.specs.Prelude.{◌≡◌, Bool, true, List, [], ◌∷◌}
use Rattle.modular.specs.declared.letter.Letter.{Letter}
use Rattle.modular.specs.declared.letter.Letter.TheVariants.{T, S}
use Rattle.modular.specs.Matrix.{M2}
use Rattle.modular.specs.Words.{matrix}

pub record Laws {R : Type 0} (Point : R → Type 0) (start : R) (t s : R → R) (agrees : R → R → Bool) : Type 0 where
  pub first_point : Point start
  pub t_point : (p : R) → Point p → Point (t p)
  pub s_point : (p : R) → Point p → Point (s p)
  -- S four times gives the point back
  pub four_s : (p : R) → Point p → s (s (s (s p))) ≡ p
  -- "S then T" three times gives what S twice gives
  pub three_st : (p : R) → Point p → t (s (t (s (t (s p))))) ≡ s (s p)
  -- agreeing is being equal
  pub agree_same : (p q : R) → agrees p q ≡ true → p ≡ q
  pub same_agree : (p q : R) → p ≡ q → agrees p q ≡ true

module _ {R : Type 0} where
  abbrev pub lead : (R → R) → (R → R) → List Letter → R → R
  lead t s [] p = p
  lead t s (T ∷ w) p = lead t s w (t p)
  lead t s (S ∷ w) p = lead t s w (s p)

  abbrev pub Reachable : R → (R → R) → (R → R) → R → Type 0
  Reachable start t s p = (w : List Letter) × (lead t s w start ≡ p)

  abbrev pub Member : R → (R → R) → (R → R) → M2 → Type 0
  Member start t s M = (w : List Letter) × (matrix w ≡ M) × (lead t s w start ≡ start)
