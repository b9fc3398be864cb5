-- Each example computes.
use Rattle.std.proofs.Common.{refl}
use Rattle.origami.specs.Forms.{least, reading, earlier}
use Rattle.origami.specs.Gluings.{padded}
use Rattle.origami.specs.Origamis.{inside}
use Rattle.worked.proofs.FourSquares.{four, nine_take_18, no_edge_left, eight_take_12, no_free_row}
use Rattle.worked.proofs.examples.Goals as goal

pub returns : goal.returns
unfolding least reading earlier padded inside
returns c = record {
  count = refl;
  hold = record {
    lines = refl;
    mirrored = refl;
    generated = refl;
    least_form = refl;
    four = four;
    nine_take_18 = nine_take_18;
    no_edge_left = no_edge_left;
    eight_take_12 = eight_take_12;
    no_free_row = no_free_row;
    three = refl;
  };
}
