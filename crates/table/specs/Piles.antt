-- An action beside the mirror of a finished table.
--     pile a t        the pair of a and the mirror of t
--     pile_of G        its action, where that of a has the ghost members G
use Rattle.modular.specs.declared.action.Action.{Ghosts}
use Rattle.modular.specs.declared.mirror.Mirror.{Mirror}
use Rattle.modular.specs.declared.pair.Both.{Both}
use Rattle.modular.specs.declared.pair.Pair.{Pair}
use Rattle.modular.specs.Mirror.{mirror_of}
use Rattle.modular.specs.Pair.{pair_of}
use Rattle.std.specs.Prelude.{ℕ}
use Rattle.table.specs.declared.finished.Finished.{Finished}
use Rattle.table.specs.contracts.finished.acting.FinishedAction.TheImpl.{ghosts}

abbrev pub pile : {A : Type 0} → A → Finished → Pair A (Mirror Finished)
pile a t = record { first = a; second = record { below = t } }

abbrev pub pile_of : {A R : Type 0} → Ghosts A R → Ghosts (Pair A (Mirror Finished)) (Both R ℕ)
pile_of G = pair_of G (mirror_of ghosts)
