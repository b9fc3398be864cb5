-- The five lines are written as one text.
use Rattle.std.proofs.Common.{to_z-of_z, w64, SFits, rules}
use Rattle.listing.proofs.Written.{added, shape_written}
use Rattle.listing.proofs.lines.shape_lines.Goals as goal

pub returns : goal.returns
returns c =
    let fits : SFits w64 c.args.shape.genus12 = search rules in
    added c.write.result _ _ _ _ (shape_written c.args.shape _ (to_z-of_z fits)) c.write.ensures.bytes
