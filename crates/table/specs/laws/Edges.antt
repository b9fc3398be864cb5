-- An edge has a row and a letter, and a row's step goes along its edge.
use Rattle.std.specs.Prelude.{◌≡◌, ℕ, ◌+◌, ◌*◌, ◌/◌, ◌%◌, ◌<◌, true, false, List, length}
use Rattle.std.proofs.Common.{sym, ap, ◌∙◌, arith, eq-eqb, ne_eqb, lt-ltb}
use Rattle.modular.specs.declared.letter.Letter.{Letter}
use Rattle.modular.specs.declared.letter.Letter.TheVariants.{T, S}
use Rattle.table.specs.declared.link.Link.{Link}
use Rattle.table.specs.Links.{at, aim, aim_at, edge, letter_at, next}

pub letter_edge : (r : ℕ) (g : Letter) → letter_at (edge r g) ≡ g
letter_edge r T = let z : (2 * r) % 2 ≡ 0 = omega arith in ap (λ b. elim b [ true ↦ T | false ↦ S ]) (eq-eqb _ 0 z)
letter_edge r S = let z : (2 * r + 1) % 2 ≡ 0 → ⊥ = λ e. omega arith in ap (λ b. elim b [ true ↦ T | false ↦ S ]) (ne_eqb _ 0 z)

pub row_edge : (r : ℕ) (g : Letter) → edge r g / 2 ≡ r
row_edge r T = omega arith
row_edge r S = omega arith

pub aim_edge : (links : List Link) (r : ℕ) (g : Letter) → aim_at links (edge r g) ≡ aim g (at links r)
aim_edge links r g = λ i. aim (letter_edge r g i) (at links (row_edge r g i))

pub next_at_row : (links : List Link) (g : Letter) (r : ℕ) → r < length links → next links g r ≡ aim g (at links r)
next_at_row links g r h = ap (λ b. elim b [ true ↦ aim g (at links r) | false ↦ r ]) (lt-ltb r (length links) h)

pub next_edge : (links : List Link) (g : Letter) (r : ℕ) → r < length links → next links g r ≡ aim_at links (edge r g)
next_edge links g r h = next_at_row links g r h ∙ sym (aim_edge links r g)
