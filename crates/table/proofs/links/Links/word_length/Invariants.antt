-- The letters so far, and those of the row that is reached, are the letters of the word.
use Rattle.std.proofs.Common.{◌≡◌, ◌+◌, ◌-◌, length}
use Rattle.table.specs.Acting.{spelled, word_of}
use Rattle.table.proofs.links.Links.word_length.Given as goal

abbrev pub invariant-loop-n : goal.invariant-loop-n
invariant-loop-n l = l.n + length (spelled l.self.links.now (l.row - l.n) l.q) ≡ length (word_of l.self.links.now l.row)
