-- The text has a line for each generator so far.
use Rattle.std.proofs.Common.{◌≡◌, ◌++◌, string_bytes}
use Rattle.listing.specs.Lines.{each, generator_line}
use Rattle.listing.proofs.parts.generators.Given as goal

abbrev pub invariant-loop-number : goal.invariant-loop-number
invariant-loop-number l = string_bytes l.text ≡ string_bytes l.initial.text ++ each (generator_line l.table.links.now) l.number
