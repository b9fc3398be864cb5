-- The test whether a row is the lowest of its T-cycle, one step at a time.
use Rattle.std.proofs.Common.{◌≡◌, ℕ, suc, ◌<◌, true, false, cond, ltb, List, ap, ◌∙◌, arith, le-ltb, ne_eqb}
use Rattle.modular.specs.declared.letter.Letter.TheVariants.{T}
use Rattle.table.specs.declared.link.Link.{Link}
use Rattle.table.specs.Links.{next}
use Rattle.table.specs.Shapes.{low_from}

-- above it the test goes on
pub low_on : (links : List Link) (n q r : ℕ) → r < q → low_from links (suc n) q r ≡ low_from links n (next links T q) r
low_on links n q r h =
    ap (λ c. cond c true (cond (ltb q r) false (low_from links n (next links T q) r))) (ne_eqb q r (λ e. omega arith))
    ∙ ap (λ c. cond c false (low_from links n (next links T q) r)) (le-ltb q r (omega arith))
