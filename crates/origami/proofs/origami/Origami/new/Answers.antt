use Rattle.std.proofs.Common.{◌≡◌, ℕ, List, sym, subst}
use Rattle.origami.specs.declared.gluing.Gluing.{Gluing}
use Rattle.origami.specs.Gluings.{right_of, up_of, Glues}
use Rattle.origami.specs.Listings.{Accepted, listed}
use Rattle.origami.specs.laws.Leasts.{glued_whole}
use Rattle.origami.specs.laws.Origamis.{permutes_undone}
use Rattle.origami.proofs.Listings.{listed_glues}
use Rattle.origami.proofs.Veech.{veech_group}
use Rattle.origami.proofs.origami.Origami.new.Goals as goal

accepted_glues : (xs ys : List ℕ) (g : Gluing) → Accepted xs ys × (g ≡ listed xs ys) → Glues g
accepted_glues xs ys g p = subst Glues (sym p.1) (listed_glues xs ys p.0.fit p.0.rights p.0.ups p.0.reached)

pub invariant_of-result : goal.invariant_of-result
invariant_of-result c =
    let g = c.in_ok-listed.field-0 in
    let h = accepted_glues c.args.right.now c.args.up.now g c.in_ok-listed.ensures in
    record {
      size = (h.some, h.few);
      rights = permutes_undone g.degree (right_of g) h.rights;
      ups = permutes_undone g.degree (up_of g) h.ups;
      whole = glued_whole g h 0 h.some;
    }

pub returns : goal.returns
returns c =
    let g = c.in_ok-listed.field-0 in
    let p = c.in_ok-listed.ensures in
    record { accepted = p.0; as_listed = p.1; veech = veech_group g (accepted_glues c.args.right.now c.args.up.now g p) }
