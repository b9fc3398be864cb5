-- Where a matrix of determinant 1 leads from a row.
--     steps_t links b r       T to the power b from row r: as many steps as b leaves modulo the width of r
--     upper links x r        from row r by x, where its c is 0: x is T^b or −T^(−b)
--     rest x                 what is left of x when T^q and S are taken off its left, q the quotient of a by c rounded towards zero
--     placed_in links n x r   from row r by x, in at most n divisions
--     placed links x         the row of x
use Rattle.std.specs.Prelude.{ℕ, zero, suc, cond, List, ℤ, ◌-ℤ◌, ◌*ℤ◌, neg_ℤ, ◌==◌, int_div, int_rem, unsigned_abs}
use Rattle.std.specs.Int.Signed.{non_neg}
use Rattle.modular.specs.declared.letter.Letter.TheVariants.{T, S}
use Rattle.modular.specs.Matrix.{M2}
use Rattle.numbers.specs.Residues.{residue}
use Rattle.table.specs.declared.link.Link.{Link}
use Rattle.table.specs.Links.{next}
use Rattle.table.specs.Widths.{times, width}

abbrev pub steps_t : List Link → ℤ → ℕ → ℕ
steps_t links b r = times (residue (width links r) b) (next links T) r

abbrev pub upper : List Link → M2 → ℕ → ℕ
upper links x r = cond (non_neg x.a) (steps_t links x.b r) (steps_t links (neg_ℤ x.b) (next links S (next links S r)))

abbrev pub rest : M2 → M2
rest x = record { a = x.c; b = x.d; c = neg_ℤ (int_rem x.a x.c); d = int_div x.a x.c *ℤ x.d -ℤ x.b }

abbrev pub placed_in : List Link → ℕ → M2 → ℕ → ℕ
placed_in links zero x r = upper links x r
placed_in links (suc n) x r = cond (unsigned_abs x.c == 0) (upper links x r) (placed_in links n (rest x) (next links S (steps_t links (int_div x.a x.c) r)))

abbrev pub placed : List Link → M2 → ℕ
placed links x = placed_in links (unsigned_abs x.c) x 0
