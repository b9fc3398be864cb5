-- The product of the letters so far, and that each product on the way could be held.
use Rattle.std.proofs.Common.{◌≡◌, ℕ, ◌≤◌, take}
use Rattle.modular.specs.Matrix.{Fits, rows}
use Rattle.modular.specs.Words.{matrix}
use Rattle.modular.proofs.word.matrix_of.Given as goal

abbrev pub invariant-loop-letter : goal.invariant-loop-letter
invariant-loop-letter l =
    (l.m ≡ rows (matrix (take l.letter-index l.word))) × ((k : ℕ) → k ≤ l.letter-index → Fits (matrix (take k l.word)))
