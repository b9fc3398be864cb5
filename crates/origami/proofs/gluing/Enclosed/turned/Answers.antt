use Rattle.std.proofs.Common.{◌≡◌, ℕ, List, sym, subst, arith}
use Rattle.origami.specs.declared.gluing.Gluing.{Gluing}
use Rattle.origami.specs.Gluings.{right_of, Inside, turned}
use Rattle.origami.proofs.Filled.{Undoing, undoing_all}
use Rattle.origami.proofs.Insides.{turned_inside}
use Rattle.origami.proofs.gluing.Enclosed.turned.Goals as goal

-- the entries that the loop wrote
made : (g : Gluing) (i : ℕ) (up : List ℕ) → i ≡ g.degree → Undoing g.degree (right_of g) i up → up ≡ (turned g).up
made g i up e u = undoing_all g.degree (right_of g) up (subst (λ n. Undoing g.degree (right_of g) n up) e u)

pub invariant_of-result : goal.invariant_of-result
invariant_of-result c =
    let g = c.args.self.gluing in
    let up = made g c.loop-square.square c.loop-square.up (omega arith) c.loop-square.invariant in
    record { ok = subst (λ up. Inside (record { degree = g.degree; right = g.up; up = up })) (sym up) (turned_inside g c.args.self.ok) }

pub returns : goal.returns
returns c =
    let g = c.args.self.gluing in
    let up = made g c.loop-square.square c.loop-square.up (omega arith) c.loop-square.invariant in
    λ t. record { degree = g.degree; right = g.up; up = up t }
