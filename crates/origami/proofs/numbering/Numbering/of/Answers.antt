use Rattle.std.proofs.Common.{◌∙◌}
use Rattle.origami.proofs.Marks.{number_of}
use Rattle.origami.proofs.numbering.Numbering.of.Goals as goal

pub returns : goal.returns
returns c = λ x xs h. c.unwrap_or.ensures ∙ number_of x xs c.args.self.now h c.args.square c.requires
