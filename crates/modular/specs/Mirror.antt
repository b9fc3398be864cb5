-- An action seen in a mirror.
--     mirrored M     the matrix M with the signs of b and c turned
--     mirror_of G     the action of a mirror, above one with the ghost members G: the inverse of each letter is stepped
use Rattle.std.specs.Prelude.{neg_ℤ}
use Rattle.modular.specs.declared.action.Action.{Ghosts}
use Rattle.modular.specs.declared.mirror.Mirror.{Mirror}
use Rattle.modular.specs.Actions.{lead}
use Rattle.modular.specs.Inverses.{back_t, back_s}
use Rattle.modular.specs.Matrix.{M2}
use Rattle.modular.specs.MirrorLaws.{mirror_laws}

abbrev pub mirrored : M2 → M2
mirrored M = record { a = M.a; b = neg_ℤ M.b; c = neg_ℤ M.c; d = M.d }

abbrev pub mirror_of : {A R : Type 0} → Ghosts A R → Ghosts (Mirror A) R
mirror_of G = record {
  point = λ a. G.point a.below;
  start = λ a. G.start a.below;
  step_t = λ a. lead (G.step_t a.below) (G.step_s a.below) back_t;
  step_s = λ a. lead (G.step_t a.below) (G.step_s a.below) back_s;
  agrees = λ a. G.agrees a.below;
  laws = λ a. mirror_laws (G.laws a.below);
}
