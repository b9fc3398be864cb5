use Rattle.std.proofs.Common.{◌≡◌, Bool, true, false, T, ◌↔◌, sym, ◌∙◌, subst}
use Rattle.origami.specs.declared.gluing.Gluing.{Gluing}
use Rattle.origami.specs.Origamis.{alike}
use Rattle.origami.specs.laws.Leasts.{one_form}
use Rattle.origami.specs.laws.Origamis.{held_glues, alike_same, same_alike}
use Rattle.origami.proofs.origami.Origami.same_surface.Goals as goal

-- a test that answers as `alike` does is true exactly when its gluings are equal
agreed : (r : Bool) (g k : Gluing) → r ≡ alike g k → T r ↔ (g ≡ k)
agreed true g k e = (λ _. alike_same g k (sym e), λ _. tt)
agreed false g k e = (λ x. absurd x, λ x. subst T (sym (e ∙ same_alike g k x)) tt)

pub returns : goal.returns
returns c =
    let a = c.args.self.now in
    let b = c.args.other.now in
    let h = held_glues a.gluing a.size a.rights a.ups a.whole in
    let j = held_glues b.gluing b.size b.rights b.ups b.whole in
    let one = one_form a.gluing b.gluing h j in
    let same = agreed c.eq.result c.least_form.result c.least_form-2.result c.eq.ensures in
    record {
      exactly = (
        λ t. one.0 (sym c.least_form.ensures.value ∙ same.0 t ∙ c.least_form-2.ensures.value),
        λ r. same.1 (c.least_form.ensures.value ∙ one.1 r ∙ sym c.least_form-2.ensures.value),
      );
      one_form = one;
    }
