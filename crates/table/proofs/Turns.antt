-- The count of T steps back to a row, one step at a time, on every list of links.
use Rattle.std.proofs.Common.{◌≡◌, ℕ, zero, suc, ◌+◌, ◌<◌, ◌≤◌, Bool, true, false, cond, eqb, List, length, refl, ap, ◌∙◌, arith, ne_eqb}
use Rattle.modular.specs.declared.letter.Letter.TheVariants.{T}
use Rattle.table.specs.declared.link.Link.{Link}
use Rattle.table.specs.Links.{next}
use Rattle.std.specs.List.{fold, range_with_len}
use Rattle.table.specs.Widths.{back, times, width}

-- elsewhere it goes on
pub back_on : (links : List Link) (n q r k : ℕ) → (q ≡ r → ⊥) → back links (suc n) q r k ≡ back links n (next links T q) r (suc k)
back_on links n q r k e = ap (λ b. cond b k (back links n (next links T q) r (suc k))) (ne_eqb q r e)

-- it never falls, and grows by at most the steps that are left
pub back_range : (links : List Link) (n q r k : ℕ) → (k ≤ back links n q r k) × (back links n q r k ≤ k + n)
back_range links zero q r k = (omega arith, omega arith)
back_range links (suc n) q r k = by (eqb q r) (back_range links n (next links T q) r (suc k))
  where
    by : (b : Bool) {m : ℕ} → (suc k ≤ m) × (m ≤ suc k + n) → (k ≤ cond b k m) × (cond b k m ≤ k + suc n)
    by true h = (omega arith, omega arith)
    by false h = (omega arith, omega arith)

-- so a width is from 1 to one more than there are links
pub width_range : (links : List Link) (r : ℕ) → (0 < width links r) × (width links r ≤ length links + 1)
width_range links r = let h = back_range links (length links) (next links T r) r 1 in (omega arith, omega arith)

-- a range taken as turns steps as often as it is long
pub times_turn : (f : ℕ → ℕ) (n r : ℕ) → times n f (f r) ≡ f (times n f r)
times_turn f zero r = refl
times_turn f (suc n) r = ap f (times_turn f n r)

pub fold_times : (f : ℕ → ℕ) (n a r : ℕ) → fold (λ q _. f q) r (range_with_len a n) ≡ times n f r
fold_times f zero a r = refl
fold_times f (suc n) a r = fold_times f n (a + 1) (f r) ∙ times_turn f n r
