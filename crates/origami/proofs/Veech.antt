-- Who is in the Veech group of an origami.
use Rattle.std.proofs.Common.{◌≡◌, ◌↔◌, List, sym, ◌∙◌}
use Rattle.modular.specs.declared.letter.Letter.{Letter}
use Rattle.modular.specs.Actions.{Laws, lead, Member}
use Rattle.modular.proofs.Members.{through_matrix}
use Rattle.modular.proofs.Reaching.{has_word}
use Rattle.origami.specs.declared.gluing.Gluing.{Gluing}
use Rattle.origami.specs.Forms.{least}
use Rattle.origami.specs.Gluings.{Glues, Renumbered}
use Rattle.origami.specs.Origamis.{IsPoint, sheared_form, turned_form, alike, plainly, VeechGroup}
use Rattle.origami.specs.laws.Leasts.{one_form}
use Rattle.origami.specs.laws.Origamis.{plainly_glues, lead_least, origami_laws}

module _ (g : Gluing) (h : Glues g) where
  -- a word leads the least form back to itself exactly when it turns g into a renumbering of g
  back : (w : List Letter) → (lead sheared_form turned_form w (least g) ≡ least g) ↔ Renumbered g (plainly w g)
  back w =
      let l = lead_least w g h in
      let o = one_form g (plainly w g) h (plainly_glues w g h) in
      (λ e. o.0 (sym e ∙ l), λ r. l ∙ sym (o.1 r))

  laws : Laws IsPoint (least g) sheared_form turned_form alike
  laws = origami_laws g h

  pub veech_group : VeechGroup g (Member (least g) sheared_form turned_form)
  veech_group = record {
    some_word = λ M d. (λ m. (m.0, m.1, (back m.0).0 m.2), λ m. (m.0, m.1, (back m.0).1 m.2));
    every_word = λ M d. (
      λ m w e. (back w).0 (through_matrix laws (least g) laws.first_point w m.0 (e ∙ sym m.1) ∙ m.2),
      λ all. let w = has_word M d in (w.0, w.1, (back w.0).1 (all w.0 w.1)),
    );
  }
