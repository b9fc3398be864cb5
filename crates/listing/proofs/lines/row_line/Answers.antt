-- The word of a row fits the output, and is written as it is spelled.
use Rattle.std.proofs.Common.{IsAscii, sym, subst}
use Rattle.table.specs.Acting.{word_of}
use Rattle.listing.proofs.Words.{ascii_word, spell_ok, spell_word}
use Rattle.listing.proofs.lines.row_line.Goals as goal

pub unwrap-count-requires : goal.unwrap-count-requires
unwrap-count-requires c = spell_ok c.args.table.now.links.now c.args.row c.args.out.now c.requires.there c.requires.room _ c.spell.ensures.answer

pub printed-word-requires : goal.printed-word-requires
printed-word-requires c =
    let links = c.args.table.now.links.now in
    let word = spell_word links c.args.row c.args.out.now c.requires.there c.requires.room _ _ _ c.spell.ensures.answer c.unwrap-count.ensures c.spell.ensures.out in
    subst IsAscii (sym word) (ascii_word (word_of links c.args.row))
