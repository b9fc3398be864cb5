-- What an accepted open tells of the memory.
use Rattle.std.proofs.Common.{◌≡◌, Bool, true, false, eqb, List, length, Ok, sym, refl, ap}
use Rattle.std.proofs.lemmas.Bool.{and_parts, eqb-true}
use Rattle.table.specs.declared.counts.Counts.{Counts}
use Rattle.table.specs.declared.link.Link.{Link}
use Rattle.table.specs.Growing.{opened, open_by, lendable}

module _ {R : Type 0} (start : R) (rows : List R) (links : List Link) (c : Counts) where
  -- the memory can be lent, there are as many links as rows, and the table has that size
  pub record Lent : Type 0 where
    pub can : lendable (length rows) (length links) ≡ true
    pub equal : length links ≡ length rows
    pub size : c.size ≡ length rows

  by : (b : Bool) → lendable (length rows) (length links) ≡ b → (open_by start b rows links).answer ≡ Ok c → Lent
  by true e h = record {
    can = e;
    equal = sym (eqb-true (length rows) (length links) (and_parts _ (eqb (length rows) (length links)) e).1);
    size = let q : record { size = length rows; held = 1; filled = 0 } ≡ c = cc h in ap (λ k. k.size) (sym q);
  }
  by false e h = cc

  pub opened_lent : (opened start rows links).answer ≡ Ok c → Lent
  opened_lent h = by (lendable (length rows) (length links)) refl h
