-- The T-cycle of a row.
--     times n f r        f applied n times to r
--     width links r      how many T steps lead from row r back to it for the first time
--     IsWidth links r w  w is the least positive number of T steps that lead from row r back to it
use Rattle.std.specs.Prelude.{◌≡◌, ℕ, zero, suc, ◌<◌, ◌≤◌, cond, List, length, ◌==◌}
use Rattle.modular.specs.declared.letter.Letter.TheVariants.{T}
use Rattle.table.specs.declared.link.Link.{Link}
use Rattle.table.specs.Links.{next}

abbrev pub times : ℕ → (ℕ → ℕ) → ℕ → ℕ
times zero f r = r
times (suc n) f r = f (times n f r)

-- counted on from k, at row q, for at most n steps more
abbrev pub back : List Link → ℕ → ℕ → ℕ → ℕ → ℕ
back links zero q r k = k
back links (suc n) q r k = cond (q == r) k (back links n (next links T q) r (suc k))

abbrev pub width : List Link → ℕ → ℕ
width links r = back links (length links) (next links T r) r 1

pub record IsWidth (links : List Link) (r w : ℕ) : Type 0 where
  pub some : 0 < w
  pub returns : times w (next links T) r ≡ r
  pub least : (m : ℕ) → 0 < m → times m (next links T) r ≡ r → w ≤ m
