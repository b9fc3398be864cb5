use Rattle.origami.specs.Listings.{target}
use Rattle.origami.proofs.Filled.{Filled}
use Rattle.origami.proofs.Listings.{Seen}
use Rattle.origami.proofs.listing.permutation.Given as goal

abbrev pub invariant-loop-i : goal.invariant-loop-i
invariant-loop-i l = Filled l.i (target l.list) l.squares × Seen l.degree l.i l.list l.seen
