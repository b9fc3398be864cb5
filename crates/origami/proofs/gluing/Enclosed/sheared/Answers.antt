use Rattle.std.proofs.Common.{◌≡◌, ℕ, List, subst, arith}
use Rattle.origami.specs.declared.gluing.Gluing.{Gluing}
use Rattle.origami.specs.Gluings.{right_of, up_of, sheared}
use Rattle.origami.proofs.Filled.{Filled, filled_all}
use Rattle.origami.proofs.gluing.Enclosed.sheared.Goals as goal

-- the entries that the loop wrote
made : (g : Gluing) (i : ℕ) (up : List ℕ) → i ≡ g.degree → Filled i (λ k. up_of g (right_of g k)) up → up ≡ (sheared g).up
made g i up e f = let h = λ (k : ℕ). up_of g (right_of g k) in filled_all g.degree h up (subst (λ n. Filled n h up) e f)

pub returns : goal.returns
returns c =
    let g = c.args.self.gluing in
    let up = made g c.loop-i.i c.loop-i.up (omega arith) c.loop-i.invariant in
    λ t. record { degree = g.degree; right = g.right; up = up t }
