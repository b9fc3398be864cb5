-- From the place k on the word is written, and the row that is reached has the letters before it.
use Rattle.std.proofs.Common.{◌≡◌, ◌-◌, ◌++◌, length, take, drop}
use Rattle.table.specs.Acting.{spelled, word_of}
use Rattle.table.specs.Questions.{characters}
use Rattle.table.proofs.links.Links.write_word.Given as goal

abbrev pub invariant-loop-k : goal.invariant-loop-k
invariant-loop-k l =
    (spelled l.self.links.now (l.row - (length l.initial.out - l.k)) l.q ≡ take l.k (word_of l.self.links.now l.row))
    × (l.out ≡ take l.k l.initial.out ++ drop l.k (characters (word_of l.self.links.now l.row)))
