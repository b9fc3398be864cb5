-- One generator more is one line more, and before the last there are as many as rows.
use Rattle.listing.specs.Lines.{generator_line}
use Rattle.listing.proofs.Turns.{each_more}
use Rattle.listing.proofs.parts.generators.Goals as goal

pub loop-number-preserved : goal.loop-number-preserved
loop-number-preserved c =
    each_more (generator_line c.args.table.now.links.now) c.loop-number.number _ _ _ c.loop-number.invariant c.in_ok-generator_line.ensures
