-- Fills, one after the other.
use Rattle.std.proofs.Common.{◌≡◌, Bool, true, false, Ok, Err, Result, sym, refl, ap, ◌∙◌, subst}
use Rattle.table.specs.declared.counts.Filled.{Filled}
use Rattle.table.specs.declared.refusal.Refusal.{Refusal}
use Rattle.table.specs.Growing.{Growing, filling, fill_by, as_lent, edge_left, row_free, agreed, FilledOn, none, more}

module _ {R : Type 0} (start : R) (t s : R → R) (agrees : R → R → Bool) where
  kept_by : (m : Growing R) (e : Refusal) (lent left old free : Bool) → (fill_by start t s agrees m lent left old free).answer ≡ Err e → (fill_by start t s agrees m lent left old free).memory ≡ m
  kept_by m e false left old free h = refl
  kept_by m e true false old free h = refl
  kept_by m e true true true free h = cc
  kept_by m e true true false false h = refl
  kept_by m e true true false true h = cc

  -- a fill that is declined leaves the table as it was
  pub fill_kept : (m : Growing R) (e : Refusal) → (filling start t s agrees m).answer ≡ Err e → (filling start t s agrees m).memory ≡ m
  fill_kept m e h = kept_by m e (as_lent m) (edge_left m) (agreed start t s agrees m) (row_free m) h

  -- a fill more, by what it answers and leaves
  pub filled_more : (m n p : Growing R) (r : Result Filled Refusal) (a : Filled) → FilledOn start t s agrees m n → r ≡ (filling start t s agrees n).answer → r ≡ Ok a
      → p ≡ (filling start t s agrees n).memory → FilledOn start t s agrees m p
  filled_more m n p r a w e f h = subst (FilledOn start t s agrees m) (sym h) (more n a w (sym e ∙ f))

  -- and one that is declined
  pub filled_last : (m n p : Growing R) (r : Result Filled Refusal) (x : Refusal) → FilledOn start t s agrees m n → r ≡ (filling start t s agrees n).answer → r ≡ Err x
      → p ≡ (filling start t s agrees n).memory → FilledOn start t s agrees m p × ((filling start t s agrees p).answer ≡ Err x)
  filled_last m n p r x w e f h =
      let k = h ∙ fill_kept n x (sym e ∙ f) in
      (subst (FilledOn start t s agrees m) (sym k) w, ap (λ q. (filling start t s agrees q).answer) k ∙ sym e ∙ f)

  size_by : (m : Growing R) (lent left old free : Bool) → (fill_by start t s agrees m lent left old free).memory.counts.size ≡ m.counts.size
  size_by m false left old free = refl
  size_by m true false old free = refl
  size_by m true true true free = refl
  size_by m true true false false = refl
  size_by m true true false true = refl

  -- fills leave the size of the memory as it is
  pub size_on : (m n : Growing R) → FilledOn start t s agrees m n → n.counts.size ≡ m.counts.size
  size_on m n none = refl
  size_on m n (more k a w h) = size_by k (as_lent k) (edge_left k) (agreed start t s agrees k) (row_free k) ∙ size_on m k w
