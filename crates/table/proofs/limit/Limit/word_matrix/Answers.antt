-- One letter more multiplies on the right, and the first product beyond the limit decides.
use Rattle.std.proofs.Common.{◌≡◌, ℕ, ◌+◌, ◌<◌, true, List, length, get_or, take, drop, sym, ap, ◌∙◌, inl, inr, arith}
use Rattle.std.proofs.lemmas.List.{take_more, drop_more, get_or-map, length-map}
use Rattle.std.proofs.lemmas.Bool.{both_ways, cases_Bool}
use Rattle.modular.specs.declared.letter.Letter.{Letter}
use Rattle.modular.specs.declared.letter.Letter.TheVariants.{T}
use Rattle.modular.specs.Matrix.{entries, rows, ◌·◌}
use Rattle.modular.specs.Words.{matrix, of_letter}
use Rattle.modular.proofs.Products.{matrix_snoc}
use Rattle.table.specs.Questions.{letters, prefixes, within, written}
use Rattle.table.proofs.Limits.{prefix_on, prefix_stop}
use Rattle.table.proofs.limit.Limit.word_matrix.Goals as goal

-- the letter at place i is g: the matrix with it, and what is left of the test
module _ (n : ℕ) (w : List Letter) (i : ℕ) (g : Letter) (l : i < length w) (e : get_or w i T ≡ g) where
  more_matrix : matrix (take i w) · of_letter g ≡ matrix (take (i + 1) w)
  more_matrix = sym (ap matrix (take_more w i T l) ∙ matrix_snoc (take i w) (get_or w i T) ∙ ap (λ h. matrix (take i w) · of_letter h) e)

  more_prefixes : within n (matrix (take i w)) ≡ true → prefixes n (matrix (take i w)) (drop i w) ≡ prefixes n (matrix (take (i + 1) w)) (drop (i + 1) w)
  more_prefixes h =
      ap (prefixes n (matrix (take i w))) (drop_more w i T l) ∙ prefix_on n (matrix (take i w)) (get_or w i T) (drop (i + 1) w) h
      ∙ ap (λ x. prefixes n x (drop (i + 1) w)) (ap (λ h. matrix (take i w) · of_letter h) e ∙ more_matrix)

-- the letter that was read
read : (word : List ℕ) (i : ℕ) (g : Letter) → i < length word → g ≡ written (get_or word i 0) → get_or (letters word) i T ≡ g
read word i g l e = get_or-map written word i 0 T l ∙ sym e

pub returns-in_err-m : goal.returns-in_err-m
returns-in_err-m c =
    let word = c.args.word.now in
    let n = c.args.self.most in
    let i = c.loop-c.c-index in
    let l : i < length (letters word) = omega (arith, length-map word written, c.loop-c-test.true) in
    let e = read word i c.letter_of.result c.loop-c-test.true c.letter_of.ensures in
    let x = (λ i. entries (c.loop-c.invariant.0 i) · entries (c.matrix.ensures i)) ∙ more_matrix n (letters word) i c.letter_of.result l e in
    rw c.from_residual.ensures (λ h. elim (cases_Bool (within n (matrix (take (i + 1) (letters word))))) [
      | inl t ↦ c.in_err-m.ensures (ap (within n) x ∙ t)
      | inr f ↦ both_ways _ (c.loop-c.invariant.2 ∙ more_prefixes n (letters word) i c.letter_of.result l e c.loop-c.invariant.1 ∙ prefix_stop n (matrix (take (i + 1) (letters word))) (drop (i + 1) (letters word)) f) h
    ])

pub loop-c-preserved : goal.loop-c-preserved
loop-c-preserved c =
    let word = c.args.word.now in
    let n = c.args.self.most in
    let i = c.loop-c.c-index in
    let l : i < length (letters word) = omega (arith, length-map word written, c.loop-c-test.true) in
    let e = read word i c.letter_of.result c.loop-c-test.true c.letter_of.ensures in
    let x = (λ i. entries (c.loop-c.invariant.0 i) · entries (c.matrix.ensures i)) ∙ more_matrix n (letters word) i c.letter_of.result l e in (
      c.in_ok-m.ensures.1 ∙ ap rows x,
      sym (ap (within n) x) ∙ c.in_ok-m.ensures.0,
      c.loop-c.invariant.2 ∙ more_prefixes n (letters word) i c.letter_of.result l e c.loop-c.invariant.1,
    )
