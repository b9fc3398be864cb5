-- What is left of the word leads from the row so far to where the whole word leads.
use Rattle.std.proofs.Common.{◌≡◌, IsUtf8}
use Rattle.std.specs.Iterator.Adapters.{enumerate_count, enumerate_source}
use Rattle.std.specs.Str.Iter.{chars_rest}
use Rattle.std.specs.Str.{chars}
use Rattle.table.specs.Growing.{walk_from}
use Rattle.table.proofs.links.Links.letters.Given as goal

abbrev pub invariant-loop-place : goal.invariant-loop-place
invariant-loop-place l = record {
  can : (goal.iterator-loop-place).can_next l.place-iterator;
  finite : (goal.iterator-loop-place).is_finite l.place-iterator;
  left : walk_from l.count l.self.links.now (chars l.word) 0 0 ≡ walk_from l.count l.self.links.now (chars (chars_rest (enumerate_source l.place-iterator))) (enumerate_count l.place-iterator) l.row;
  utf8 : IsUtf8 (chars_rest (enumerate_source l.place-iterator));
}
