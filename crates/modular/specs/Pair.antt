-- Two actions side by side.
--     pair_of G H     the action of a pair, of actions with the ghost members G and H: a letter steps both sides
use Rattle.std.specs.Prelude.{◌&&◌}
use Rattle.modular.specs.declared.action.Action.{Ghosts}
use Rattle.modular.specs.declared.pair.Both.{Both}
use Rattle.modular.specs.declared.pair.Pair.{Pair}
use Rattle.modular.specs.PairLaws.{pair_laws}

abbrev pub pair_of : {A B P Q : Type 0} → Ghosts A P → Ghosts B Q → Ghosts (Pair A B) (Both P Q)
pair_of G H = record {
  point = λ a p. G.point a.first p.first × H.point a.second p.second;
  start = λ a. record { first = G.start a.first; second = H.start a.second };
  step_t = λ a p. record { first = G.step_t a.first p.first; second = H.step_t a.second p.second };
  step_s = λ a p. record { first = G.step_s a.first p.first; second = H.step_s a.second p.second };
  agrees = λ a p q. G.agrees a.first p.first q.first && H.agrees a.second p.second q.second;
  laws = λ a. pair_laws (G.laws a.first) (H.laws a.second);
}
