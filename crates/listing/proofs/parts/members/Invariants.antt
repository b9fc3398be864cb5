-- From the text so far, the matrices that are left lead to what all of them lead to from the start.
use Rattle.std.proofs.Common.{◌≡◌, map, drop, string_bytes}
use Rattle.modular.specs.Matrix.{entries}
use Rattle.listing.specs.Lines.{member_lines}
use Rattle.listing.proofs.parts.members.Given as goal

abbrev pub invariant-loop-m : goal.invariant-loop-m
invariant-loop-m l =
    member_lines l.table.links.now (string_bytes l.text) (map entries (drop l.m-index l.matrices))
    ≡ member_lines l.table.links.now (string_bytes l.initial.text) (map entries l.matrices)
