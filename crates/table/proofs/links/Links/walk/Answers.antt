-- A word has as many letters as characters.
use Rattle.std.proofs.Common.{◌≡◌, length, IsUtf8, sym, ◌∙◌, arith, rules}
use Rattle.std.specs.Str.{chars}
use Rattle.std.proofs.lemmas.Str.{chars_from_encodes}
use Rattle.table.proofs.Walks.{walk_long, walk_short}
use Rattle.table.proofs.links.Links.walk.Goals as goal

pub returns-then-count-gt-LONGEST : goal.returns-then-count-gt-LONGEST
returns-then-count-gt-LONGEST c =
    let u : IsUtf8 c.args.word.now = search rules in
    let n : c.count.result ≡ length (chars c.args.word.now) = search (rules, chars_from_encodes) in
    sym (walk_long c.args.count c.args.self.links.now (chars c.args.word.now) (omega (arith, n, c.if-count-gt-LONGEST.true)))

pub returns : goal.returns
returns c =
    let u : IsUtf8 c.args.word.now = search rules in
    let n : c.count.result ≡ length (chars c.args.word.now) = search (rules, chars_from_encodes) in
    c.letters.ensures ∙ sym (walk_short c.args.count c.args.self.links.now (chars c.args.word.now) (omega (arith, n, c.if-count-gt-LONGEST.false)))
