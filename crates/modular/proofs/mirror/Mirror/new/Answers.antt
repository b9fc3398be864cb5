-- A mirrored word has the mirrored matrix.
use Rattle.std.proofs.Common.{refl}
use Rattle.modular.proofs.Layers.{mirror_members}
use Rattle.modular.proofs.mirror.Mirror.new.Goals as goal

pub returns : goal.returns
returns g c = record { holds = refl; members = mirror_members (g.A.Action.laws c.args.below) }
