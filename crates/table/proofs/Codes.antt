-- Words as numbers: the order of words is the order of their codes. Proofs read words backwards, last letter first.
--     code p      the number of the word that p is backwards: 1, and for each letter twice as much and its bit
--     place p     where that word leads from the start
use Rattle.std.proofs.Common.{◌≡◌, ℕ, zero, suc, ◌+◌, ◌*◌, ◌/◌, ◌%◌, ◌<◌, Bool, true, false, eqb, List, [], ◌∷◌, reverse, sym, refl, ap, ◌∙◌, arith, eqb-true}
use mathlib.Core.List.{reverse_aux, reverse-reverse}
use borrow.Author.Tests.{eqb-false}
use Rattle.modular.specs.declared.letter.Letter.{Letter}
use Rattle.modular.specs.declared.letter.Letter.TheVariants.{T, S}
use Rattle.modular.specs.Actions.{lead}
use Rattle.table.specs.Growing.{step}
use Rattle.table.specs.Links.{edge, letter_at}
use Rattle.table.specs.Order.{Less}
use Rattle.table.proofs.Numbered.{bit, bit_small, onto, less_num, num_less}

abbrev pub code : List Letter → ℕ
code [] = 1
code (g ∷ p) = 2 * code p + bit g

pub code_positive : (p : List Letter) → 0 < code p
code_positive [] = omega arith
code_positive (g ∷ p) = omega (arith, code_positive p)

code_onto : (p w : List Letter) → onto 1 (reverse_aux p w) ≡ onto (code p) w
code_onto [] w = refl
code_onto (g ∷ p) w = code_onto p (g ∷ w)

-- the order of two words that are p and q backwards is that of their codes
pub less_code : (p q : List Letter) → Less (reverse p) (reverse q) → code p < code q
less_code p q l = omega (arith, less_num (reverse p) (reverse q) l, code_onto p [], code_onto q [])

pub code_less : (p q : List Letter) → code p < code q → Less (reverse p) (reverse q)
code_less p q h = num_less (reverse p) (reverse q) (omega (arith, code_onto p [], code_onto q []))

module _ {R : Type 0} (start : R) (t s : R → R) where
  abbrev pub place : List Letter → R
  place [] = start
  place (g ∷ p) = step t s g (place p)

  lead_after : (p w : List Letter) → lead t s (reverse_aux p w) start ≡ lead t s w (place p)
  lead_after [] w = refl
  lead_after (T ∷ p) w = lead_after p (T ∷ w)
  lead_after (S ∷ p) w = lead_after p (S ∷ w)

  pub lead_place : (p : List Letter) → lead t s (reverse p) start ≡ place p
  lead_place p = lead_after p []

  pub place_reverse : (w : List Letter) → place (reverse w) ≡ lead t s w start
  place_reverse w = sym (lead_place (reverse w)) ∙ ap (λ v. lead t s v start) (reverse-reverse w)

-- an edge and its number
pub edge_bit : (r : ℕ) (g : Letter) → edge r g ≡ 2 * r + bit g
edge_bit r T = omega arith
edge_bit r S = refl

pub edge_below : (r h : ℕ) (g : Letter) → r < h → edge r g < 2 * h
edge_below r h g l = omega (arith, edge_bit r g, bit_small g)

bit_by : (n : ℕ) (b : Bool) → n < 2 → eqb n 0 ≡ b → bit (elim b [ true ↦ T | false ↦ S ]) ≡ n
bit_by n true l q = omega (arith, eqb-true n 0 q)
bit_by zero false l q = absurd (eqb-false 0 0 q refl)
bit_by (suc n) false l q = omega arith

pub letter_at_bit : (e : ℕ) → bit (letter_at e) ≡ e % 2
letter_at_bit e = bit_by (e % 2) (eqb (e % 2) 0) (omega arith) refl

pub edge_of : (e : ℕ) → edge (e / 2) (letter_at e) ≡ e
edge_of e = omega (arith, edge_bit (e / 2) (letter_at e), letter_at_bit e)
