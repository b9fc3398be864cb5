-- The shape of a finished table: rows, cusps, fixed rows and genus.
--     counted f n          how many numbers below n pass the test f
--     is_low links r        row r is the lowest of its T-cycle
--     cusps links          the number of T-cycles, each counted at its lowest row
--     e2 links, e3 links   the rows fixed by S, and those fixed by S and then T
--     Shape                these numbers, as the struct of that name holds them
--     shape links          all these, with genus12 = 12 + rows − 3·e2 − 4·e3 − 6·cusps
--     widths links n       the widths of the T-cycles whose lowest row is below n, added up
--     CuspLaw links        the cusps are the T-cycles: each row is in exactly one, and the widths add up to the rows
use Rattle.std.specs.Prelude.{◌≡◌, ℕ, zero, suc, ◌+◌, ◌*◌, ◌<◌, ◌≤◌, Bool, true, false, cond, ◌↔◌, List, length, pos, ◌-ℤ◌, ◌==◌, nat_eq, nat_lt}
use Rattle.modular.specs.declared.letter.Letter.TheVariants.{T, S}
use Rattle.table.specs.declared.link.Link.{Link}
use Rattle.table.specs.declared.shape.Shape as struct
use Rattle.table.specs.Links.{next}
use Rattle.table.specs.Widths.{times, width}

abbrev pub counted : (ℕ → Bool) → ℕ → ℕ
counted f zero = 0
counted f (suc n) = cond (f n) (suc (counted f n)) (counted f n)

-- no row from q on, in at most n steps and before r comes again, is lower than r
abbrev pub low_from : List Link → ℕ → ℕ → ℕ → Bool
low_from links zero q r = true
low_from links (suc n) q r = cond (q == r) true (cond (nat_lt q r) false (low_from links n (next links T q) r))

abbrev pub is_low : List Link → ℕ → Bool
is_low links r = low_from links (length links) (next links T r) r

abbrev pub cusps : List Link → ℕ
cusps links = counted (is_low links) (length links)

abbrev pub e2 : List Link → ℕ
e2 links = counted (λ r. nat_eq (next links S r) r) (length links)

abbrev pub e3 : List Link → ℕ
e3 links = counted (λ r. nat_eq (next links T (next links S r)) r) (length links)

abbrev pub Shape : Type 0
Shape = struct.Shape

abbrev pub shape : List Link → Shape
shape links = record {
  rows = length links;
  cusps = cusps links;
  e2 = e2 links;
  e3 = e3 links;
  genus12 = pos (12 + length links) -ℤ pos (3 * e2 links + 4 * e3 links + 6 * cusps links);
}

abbrev pub widths : List Link → ℕ → ℕ
widths links zero = 0
widths links (suc n) = cond (is_low links n) (widths links n + width links n) (widths links n)

-- some number of T steps leads from r to q
abbrev pub OnCycle : List Link → ℕ → ℕ → Type 0
OnCycle links r q = (m : ℕ) × (times m (next links T) r ≡ q)

pub record CuspLaw (links : List Link) : Type 0 where
  pub low : (r : ℕ) → r < length links → (is_low links r ≡ true) ↔ ((q : ℕ) → OnCycle links r q → r ≤ q)
  pub in_one : (q : ℕ) → q < length links → (r : ℕ) × (r < length links) × (is_low links r ≡ true) × OnCycle links r q
  pub in_no_other : (q r p : ℕ) → r < length links → p < length links → is_low links r ≡ true → is_low links p ≡ true → OnCycle links r q → OnCycle links p q → r ≡ p
  pub add_up : widths links (length links) ≡ length links
