-- One row more is one line more.
use Rattle.listing.specs.Lines.{row_line}
use Rattle.listing.proofs.Turns.{each_more}
use Rattle.listing.proofs.parts.rows.Goals as goal

pub loop-row-preserved : goal.loop-row-preserved
loop-row-preserved c =
    each_more (row_line c.args.table.now.links.now) c.loop-row.row _ _ _ c.loop-row.invariant c.in_ok-row_line.ensures
