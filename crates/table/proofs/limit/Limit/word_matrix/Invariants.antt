-- The matrix of the letters so far is within the limit, and what is left of the word decides.
use Rattle.std.proofs.Common.{◌≡◌, true, take, drop}
use Rattle.modular.specs.Matrix.{identity, rows}
use Rattle.modular.specs.Words.{matrix}
use Rattle.table.specs.Questions.{letters, prefixes, within}
use Rattle.table.proofs.limit.Limit.word_matrix.Given as goal

abbrev pub invariant-loop-c : goal.invariant-loop-c
invariant-loop-c l =
    (l.m ≡ rows (matrix (take l.c-index (letters l.word))))
    × (within l.self.most (matrix (take l.c-index (letters l.word))) ≡ true)
    × (prefixes l.self.most identity (letters l.word) ≡ prefixes l.self.most (matrix (take l.c-index (letters l.word))) (drop l.c-index (letters l.word)))
