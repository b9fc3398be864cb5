-- One letter more multiplies on the right.
use Rattle.std.proofs.Common.{◌≡◌, ℕ, ◌+◌, ◌<◌, ◌≤◌, List, length, get_or, take, ℤ, sym, ap, ◌∙◌, subst, arith}
use native.Mathlib.Decide.{dec_le}
use Rattle.std.proofs.lemmas.List.{take_more, take_all}
use Rattle.modular.specs.declared.letter.Letter.{Letter}
use Rattle.modular.specs.Matrix.{Fits, rows, entries, ◌·◌}
use Rattle.modular.specs.Words.{of_letter, matrix}
use Rattle.modular.proofs.Products.{matrix_snoc}
use Rattle.modular.proofs.word.matrix_of.Goals as goal

-- the product so far times the next letter is the product with that letter
next : (w : List Letter) (i : ℕ) (d : Letter) (m r : List (List ℤ)) → i < length w → m ≡ rows (matrix (take i w)) → r ≡ rows (of_letter (get_or w i d)) → entries m · entries r ≡ matrix (take (i + 1) w)
next w i d m r h e f = (λ k. entries (e k) · entries (f k)) ∙ sym (matrix_snoc (take i w) (get_or w i d)) ∙ sym (ap matrix (take_more w i d h))

-- what holds up to i and at i + 1 holds up to i + 1
up_to : (P : ℕ → Type 0) (i : ℕ) → ((k : ℕ) → k ≤ i → P k) → P (i + 1) → (k : ℕ) → k ≤ i + 1 → P k
up_to P i below here k h = elim (dec_le k i) [ yes l ↦ below k l | no n ↦ let e : i + 1 ≡ k = omega arith in subst P e here ]

pub returns-in_err-m : goal.returns-in_err-m
returns-in_err-m c =
    let e = next c.args.word.now c.loop-letter.letter-index _ _ _ c.loop-letter-test.true c.loop-letter.invariant.0 c.matrix.ensures in
    rw c.from_residual.ensures (λ held. c.in_err-m.ensures (subst Fits (sym e) (held (c.loop-letter.letter-index + 1) (omega arith))))

pub loop-letter-preserved : goal.loop-letter-preserved
loop-letter-preserved c =
    let p = c.in_ok-m.ensures in
    let e = next c.args.word.now c.loop-letter.letter-index _ _ _ c.loop-letter-test.true c.loop-letter.invariant.0 c.matrix.ensures in
    (p.1 ∙ ap rows e, up_to (λ k. Fits (matrix (take k c.args.word.now))) _ c.loop-letter.invariant.1 (subst Fits e p.0))

pub returns : goal.returns
returns c =
    let w = c.args.word.now in
    let whole : c.loop-letter.letter-index ≡ length w = omega arith in
    (λ k h. c.loop-letter.invariant.1 k (omega arith), c.loop-letter.invariant.0 ∙ ap (λ v. rows (matrix v)) (take_all c.loop-letter.letter-index w (omega arith)))
