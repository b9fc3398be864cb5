use Rattle.std.proofs.Common.{ap, ◌∙◌, add-one}
use Rattle.levels.specs.Lines.{better}
use Rattle.levels.proofs.lines.least.Goals as goal

pub loop-u-preserved : goal.loop-u-preserved
loop-u-preserved c = rw add-one (c.better-best.ensures ∙ ap (better c.args.level.n c.loop-u.u c.args.v) c.loop-u.invariant)
