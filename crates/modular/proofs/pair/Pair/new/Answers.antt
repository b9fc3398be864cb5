-- One word of a matrix serves both sides.
use Rattle.std.proofs.Common.{refl}
use Rattle.modular.proofs.Layers.{pair_members}
use Rattle.modular.proofs.pair.Pair.new.Goals as goal

pub returns : goal.returns
returns g c = record { holds = (refl, refl); members = pair_members g.A.Action g.B.Action _ }
