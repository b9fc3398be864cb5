-- Rows of two integers, on which a word acts by its matrix; the form of a word of the identity is plain.
use Rattle.std.proofs.Common.{◌≡◌, Bool, true, false, ◌≢◌, ◌⊎◌, List, [], ◌∷◌, ℤ, pos, negsuc, ◌+ℤ◌, ◌-ℤ◌, ◌*ℤ◌, neg_ℤ, ◌<ℤ◌, sym, refl, ap, ◌∙◌, inl, inr, arith}
use lib.IntN.{neg_ℤ-neg_ℤ}
use borrow.Author.Differences.{ints}
use Rattle.numbers.proofs.Ring.{solve, ◌⊕◌, ◌⊗◌, ◌⊝◌, ⊖◌, ◌≐◌, con}
use Rattle.modular.specs.declared.letter.Letter.{Letter}
use Rattle.modular.specs.declared.letter.Letter.TheVariants.{T, S}
use Rattle.modular.specs.Actions.{lead}
use Rattle.modular.specs.Matrix.{M2, identity}
use Rattle.modular.specs.Words.{matrix}
use Rattle.modular.proofs.Forms.{Head, Tail, Form, Moves, made, plain, form, walk, walk_tail, lead_walk}
use Rattle.modular.proofs.Forms.Head.{none, once, twice}
use Rattle.modular.proofs.Forms.Tail.{end, last, su, suu}
use Rattle.modular.proofs.Products.{one_right, zero_right}

record Row : Type 0 where
  x : ℤ
  y : ℤ

-- the row x y
abbrev row : ℤ → ℤ → Row
row x y = record { x = x; y = y }

-- a row times T, and times S
abbrev row_step_t : Row → Row
row_step_t r = row r.x (r.x +ℤ r.y)

abbrev row_step_s : Row → Row
row_step_s r = row r.y (neg_ℤ r.x)

abbrev times : Row → M2 → Row
times r m = row (r.x *ℤ m.a +ℤ r.y *ℤ m.c) (r.x *ℤ m.b +ℤ r.y *ℤ m.d)

three_st_x : (x y : ℤ) → y -ℤ x -ℤ y ≡ neg_ℤ x
three_st_x = solve 2 (λ x y. y ⊝ x ⊝ y ≐ ⊖ x) tt

three_st_y : (x y : ℤ) → y -ℤ x -ℤ y -ℤ (y -ℤ x) ≡ neg_ℤ y
three_st_y = solve 2 (λ x y. y ⊝ x ⊝ y ⊝ (y ⊝ x) ≐ ⊖ y) tt

moves_row : Moves (λ r. Unit {0}) row_step_t row_step_s
moves_row = record {
  t_point = λ r h. tt;
  s_point = λ r h. tt;
  four_s = λ r h. λ i. row (neg_ℤ-neg_ℤ r.x i) (neg_ℤ-neg_ℤ r.y i);
  three_st = λ r h. λ i. row (three_st_x r.x r.y i) (three_st_y r.x r.y i);
}

t_entry : (x y p q : ℤ) → x *ℤ p +ℤ (x +ℤ y) *ℤ q ≡ x *ℤ (pos 1 *ℤ p +ℤ pos 1 *ℤ q) +ℤ y *ℤ (pos 0 *ℤ p +ℤ pos 1 *ℤ q)
t_entry = solve 4 (λ x y p q. x ⊗ p ⊕ (x ⊕ y) ⊗ q ≐ x ⊗ (con (pos 1) ⊗ p ⊕ con (pos 1) ⊗ q) ⊕ y ⊗ (con (pos 0) ⊗ p ⊕ con (pos 1) ⊗ q)) tt

s_entry : (x y p q : ℤ) → y *ℤ p +ℤ neg_ℤ x *ℤ q ≡ x *ℤ (pos 0 *ℤ p +ℤ negsuc 0 *ℤ q) +ℤ y *ℤ (pos 1 *ℤ p +ℤ pos 0 *ℤ q)
s_entry = solve 4 (λ x y p q. y ⊗ p ⊕ ⊖ x ⊗ q ≐ x ⊗ (con (pos 0) ⊗ p ⊕ con (negsuc 0) ⊗ q) ⊕ y ⊗ (con (pos 1) ⊗ p ⊕ con (pos 0) ⊗ q)) tt

-- a word leads a row to the row times its matrix
lead_times : (w : List Letter) (r : Row) → lead row_step_t row_step_s w r ≡ times r (matrix w)
lead_times [] r = λ i. row (sym (one_right r.x r.y) i) (sym (zero_right r.x r.y) i)
lead_times (T ∷ w) r = lead_times w (row_step_t r)
    ∙ (let m = matrix w in λ i. row (t_entry r.x r.y m.a m.c i) (t_entry r.x r.y m.b m.d i))
lead_times (S ∷ w) r = lead_times w (row_step_s r)
    ∙ (let m = matrix w in λ i. row (s_entry r.x r.y m.a m.c i) (s_entry r.x r.y m.b m.d i))

-- both entries above 0, or both below
abbrev Alike : Row → Type 0
Alike r = ((pos 0 <ℤ r.x) × (pos 0 <ℤ r.y)) ⊎ ((r.x <ℤ pos 0) × (r.y <ℤ pos 0))

-- no entry is 0 where a tail leads from such a row
apart : (r : Tail) (p : Row) → Alike p → ((walk_tail row_step_t row_step_s r p).x ≢ pos 0) × ((walk_tail row_step_t row_step_s r p).y ≢ pos 0)
apart end p (inl h) = (λ e. omega (arith, ints, h.0), λ e. omega (arith, ints, h.1))
apart end p (inr h) = (λ e. omega (arith, ints, h.0), λ e. omega (arith, ints, h.1))
apart last p (inl h) = (λ e. omega (arith, ints, h.1), λ e. omega (arith, ints, h.0))
apart last p (inr h) = (λ e. omega (arith, ints, h.1), λ e. omega (arith, ints, h.0))
apart (su r) p (inl h) = apart r (row_step_t (row_step_s (row_step_s p))) (inr (omega (arith, ints, h.0, h.1), omega (arith, ints, h.0, h.1)))
apart (su r) p (inr h) = apart r (row_step_t (row_step_s (row_step_s p))) (inl (omega (arith, ints, h.0, h.1), omega (arith, ints, h.0, h.1)))
apart (suu r) p (inl h) = apart r (row_step_t (row_step_s (row_step_t (row_step_s (row_step_s p))))) (inr (omega (arith, ints, h.0, h.1), omega (arith, ints, h.0, h.1)))
apart (suu r) p (inr h) = apart r (row_step_t (row_step_s (row_step_t (row_step_s (row_step_s p))))) (inl (omega (arith, ints, h.0, h.1), omega (arith, ints, h.0, h.1)))

ones_alike : Alike (row (pos 1) (pos 1))
ones_alike = inl (omega (arith, ints), omega (arith, ints))

minus_ones_alike : Alike (row (negsuc 0) (negsuc 0))
minus_ones_alike = inr (omega (arith, ints), omega (arith, ints))

abbrev Fixes : Form → Row → Type 0
Fixes f p = walk row_step_t row_step_s f p ≡ p

-- only the plain form fixes both unit rows
only_plain : (m : Bool) (h : Head) (r : Tail) → Fixes (made m h r) (row (pos 1) (pos 0)) → Fixes (made m h r) (row (pos 0) (pos 1)) → made m h r ≡ plain
only_plain false none end d e = refl
only_plain true none end d e = absurd (omega (arith, ints, ap (λ p. p.x) d))
only_plain false none last d e = absurd (omega (arith, ints, ap (λ p. p.x) d))
only_plain true none last d e = absurd (omega (arith, ints, ap (λ p. p.x) d))
only_plain false none (su r) d e = absurd ((apart r _ minus_ones_alike).1 (ap (λ p. p.y) d))
only_plain true none (su r) d e = absurd ((apart r _ ones_alike).1 (ap (λ p. p.y) d))
only_plain false none (suu r) d e = absurd ((apart r _ minus_ones_alike).0 (ap (λ p. p.x) e))
only_plain true none (suu r) d e = absurd ((apart r _ ones_alike).0 (ap (λ p. p.x) e))
only_plain false once r d e = absurd ((apart r _ ones_alike).0 (ap (λ p. p.x) e))
only_plain true once r d e = absurd ((apart r _ minus_ones_alike).0 (ap (λ p. p.x) e))
only_plain false twice r d e = absurd ((apart r _ minus_ones_alike).1 (ap (λ p. p.y) d))
only_plain true twice r d e = absurd ((apart r _ ones_alike).1 (ap (λ p. p.y) d))

pub plain_of_identity : (w : List Letter) → matrix w ≡ identity → form w ≡ plain
plain_of_identity w e = only_plain (form w).minus (form w).head (form w).tail (fixed (row (pos 1) (pos 0)) refl) (fixed (row (pos 0) (pos 1)) refl)
  where
    fixed : (p : Row) → times p identity ≡ p → Fixes (form w) p
    fixed p z = sym (lead_walk moves_row w p tt) ∙ lead_times w p ∙ ap (times p) e ∙ z
