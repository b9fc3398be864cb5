-- The text has a line for each row so far, and the output is as long as it was.
use Rattle.std.proofs.Common.{◌≡◌, ◌++◌, string_bytes}
use Rattle.listing.specs.Lines.{each, row_line}
use Rattle.listing.proofs.parts.rows.Given as goal

abbrev pub invariant-loop-row : goal.invariant-loop-row
invariant-loop-row l = string_bytes l.text ≡ string_bytes l.initial.text ++ each (row_line l.table.links.now) l.row
