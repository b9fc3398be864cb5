use Rattle.std.proofs.Common.{sym, ap, ◌∙◌, subst}
use Rattle.origami.specs.Forms.{least, IsLeast}
use Rattle.origami.specs.Gluings.{Renumbered}
use Rattle.origami.specs.Origamis.{IsPoint}
use Rattle.origami.specs.laws.Leasts.{least_is, least_renumbered}
use Rattle.origami.specs.laws.Origamis.{held_glues, least_point}
use Rattle.origami.proofs.origami.Origami.least_form.Goals as goal

pub returns : goal.returns
returns c =
    let a = c.args.self.now in
    let g = a.gluing in
    let h = held_glues g a.size a.rights a.ups a.whole in
    let is = c.least.ensures ∙ ap least c.enclosed.ensures in
    let e = sym is in
    record {
      value = is;
      is_least = subst (IsLeast g) e (least_is g h.some);
      renumbered = subst (Renumbered g) e (least_renumbered g h);
      point = subst IsPoint e (least_point g h);
    }
