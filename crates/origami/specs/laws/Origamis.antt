-- The action on origamis keeps the laws of an action.
use Rattle.std.specs.Prelude.{◌≡◌, ℕ, zero, suc, ◌<◌, ◌≤◌, true, ◌&&◌, List, [], ◌∷◌, length, ◌==◌, nat_le, nat_lt, refl}
use Rattle.std.proofs.Common.{sym, ◌∙◌, ap, subst, arith}
use Rattle.modular.specs.declared.letter.Letter.{Letter}
use Rattle.modular.specs.declared.letter.Letter.TheVariants.{T, S}
use Rattle.modular.specs.Actions.{Laws, lead}
use Rattle.std.specs.Str.{bytes_eq}
use Rattle.std.proofs.lemmas.Slice.Eq.{bytes_eq-Decides}
use Rattle.std.proofs.lemmas.Bool.{and_from, and_parts, cond-true, eq-eqb, eqb-true, lt-ltb, le-leb}
use Rattle.origami.specs.declared.gluing.Gluing.{Gluing}
use Rattle.origami.specs.Forms.{least, order}
use Rattle.origami.specs.Gluings.{right_of, up_of, Glues, Renumbered, sheared, turned}
use Rattle.origami.specs.Origamis.{inside, inside_below, IsPoint, sheared_form, turned_form, alike, plainly}
use Rattle.origami.specs.Squares.{Permutes, Undone, inverse}
use Rattle.origami.specs.laws.Injections.{undone}
use Rattle.origami.specs.laws.Leasts.{renumbered_least, least_renumbered, least_glues, least_own}
use Rattle.origami.specs.laws.Steps.{sheared_glues, turned_glues, sheared_renumbered, turned_renumbered, four_turns, three_turns}
use Rattle.origami.specs.laws.Wholes.{whole_reached}

-- what an origami holds of its gluing, in two ways

undone_permutes : (d : ℕ) (f : ℕ → ℕ) → Undone d f → Permutes d f
undone_permutes d f u = ((λ i l. (u i l).0), λ i j l m e. sym (u i l).1 ∙ ap (inverse d f) e ∙ (u j m).1)

pub permutes_undone : (d : ℕ) (f : ℕ → ℕ) → Permutes d f → Undone d f
permutes_undone d f p i l = (p.0 i l, undone d f p i l)

pub held_glues : (g : Gluing) → (0 < g.degree) × (g.degree ≤ 16) → Undone g.degree (right_of g) → Undone g.degree (up_of g)
    → length (order g 0) ≡ g.degree → Glues g
held_glues g s r u w = record {
  some = s.0;
  few = s.1;
  rights = undone_permutes g.degree (right_of g) r;
  ups = undone_permutes g.degree (up_of g) u;
  reached = whole_reached g.degree (right_of g) (up_of g) (λ i l. (r i l).0) (λ i l. (u i l).0) s.0 w;
}

-- gluings are inside

below_inside : (g : Gluing) → Glues g → (n : ℕ) → n ≤ g.degree → inside_below g n ≡ true
below_inside g h zero l = refl
below_inside g h (suc n) l = and_from (inside_below g n) (nat_lt (right_of g n) g.degree && nat_lt (up_of g n) g.degree) (below_inside g h n (omega arith))
    (and_from (nat_lt (right_of g n) g.degree) (nat_lt (up_of g n) g.degree) (lt-ltb (right_of g n) g.degree (h.rights.0 n (omega arith)))
    (lt-ltb (up_of g n) g.degree (h.ups.0 n (omega arith))))

pub gluing_inside : (g : Gluing) → Glues g → inside g ≡ true
unfolding inside
gluing_inside g h = and_from (nat_lt 0 g.degree) (nat_le g.degree 16 && inside_below g g.degree) (lt-ltb 0 g.degree h.some)
    (and_from (nat_le g.degree 16) (inside_below g g.degree) (le-leb g.degree 16 h.few) (below_inside g h g.degree (omega arith)))

-- a step may be taken before or after the least form

sheared_form_is : (g : Gluing) → Glues g → sheared_form g ≡ least (sheared g)
sheared_form_is g h = cond-true (inside g) (least (sheared g)) g (gluing_inside g h)

turned_form_is : (g : Gluing) → Glues g → turned_form g ≡ least (turned g)
turned_form_is g h = cond-true (inside g) (least (turned g)) g (gluing_inside g h)

sheared_least : (g : Gluing) → Glues g → sheared_form (least g) ≡ least (sheared g)
sheared_least g h = let j = least_glues g h in
    sheared_form_is (least g) j ∙ sym (renumbered_least (sheared g) (sheared (least g)) (sheared_glues g h) (sheared_glues (least g) j)
    (sheared_renumbered g (least g) h j (least_renumbered g h)))

turned_least : (g : Gluing) → Glues g → turned_form (least g) ≡ least (turned g)
turned_least g h = let j = least_glues g h in
    turned_form_is (least g) j ∙ sym (renumbered_least (turned g) (turned (least g)) (turned_glues g h) (turned_glues (least g) j)
    (turned_renumbered g (least g) h j (least_renumbered g h)))

pub plainly_glues : (w : List Letter) (g : Gluing) → Glues g → Glues (plainly w g)
plainly_glues [] g h = h
plainly_glues (T ∷ w) g h = plainly_glues w (sheared g) (sheared_glues g h)
plainly_glues (S ∷ w) g h = plainly_glues w (turned g) (turned_glues g h)

-- a word leads the least form of g to the least form of where it leads g plainly
pub lead_least : (w : List Letter) (g : Gluing) → Glues g → lead sheared_form turned_form w (least g) ≡ least (plainly w g)
lead_least [] g h = refl
lead_least (T ∷ w) g h = ap (lead sheared_form turned_form w) (sheared_least g h) ∙ lead_least w (sheared g) (sheared_glues g h)
lead_least (S ∷ w) g h = ap (lead sheared_form turned_form w) (turned_least g h) ∙ lead_least w (turned g) (turned_glues g h)

lead_point : (w : List Letter) (g : Gluing) → IsPoint g → lead sheared_form turned_form w g ≡ least (plainly w g)
lead_point w g p = ap (lead sheared_form turned_form w) (sym p.own) ∙ lead_least w g p.glues

-- words that lead g plainly to renumberings of one another lead a point to one point
same_leads : (u v : List Letter) (g : Gluing) → IsPoint g → Renumbered (plainly u g) (plainly v g) → lead sheared_form turned_form u g ≡ lead sheared_form turned_form v g
same_leads u v g p r = lead_point u g p
    ∙ renumbered_least (plainly u g) (plainly v g) (plainly_glues u g p.glues) (plainly_glues v g p.glues) r ∙ sym (lead_point v g p)

pub least_point : (g : Gluing) → Glues g → IsPoint (least g)
least_point g h = record { glues = least_glues g h; own = least_own g h }

pub alike_same : (g k : Gluing) → alike g k ≡ true → g ≡ k
alike_same g k e =
    let p = and_parts (g.degree == k.degree) (bytes_eq g.right k.right && bytes_eq g.up k.up) e in
    let q = and_parts (bytes_eq g.right k.right) (bytes_eq g.up k.up) p.1 in
    λ i. record {
      degree = eqb-true g.degree k.degree p.0 i;
      right = (bytes_eq-Decides g.right k.right).0 q.0 i;
      up = (bytes_eq-Decides g.up k.up).0 q.1 i;
    }

pub same_alike : (g k : Gluing) → g ≡ k → alike g k ≡ true
same_alike g k e =
    and_from (g.degree == k.degree) (bytes_eq g.right k.right && bytes_eq g.up k.up) (eq-eqb g.degree k.degree (ap (λ x. x.degree) e))
    (and_from (bytes_eq g.right k.right) (bytes_eq g.up k.up) ((bytes_eq-Decides g.right k.right).1 (ap (λ x. x.right) e))
    ((bytes_eq-Decides g.up k.up).1 (ap (λ x. x.up) e)))

pub origami_laws : (g : Gluing) → Glues g → Laws IsPoint (least g) sheared_form turned_form alike
origami_laws g h = record {
  first_point = least_point g h;
  t_point = λ p q. subst IsPoint (sym (sheared_form_is p q.glues)) (least_point (sheared p) (sheared_glues p q.glues));
  s_point = λ p q. subst IsPoint (sym (turned_form_is p q.glues)) (least_point (turned p) (turned_glues p q.glues));
  four_s = λ p q. same_leads (S ∷ S ∷ S ∷ S ∷ []) [] p q (four_turns p q.glues);
  three_st = λ p q. same_leads (S ∷ T ∷ S ∷ T ∷ S ∷ T ∷ []) (S ∷ S ∷ []) p q (three_turns p q.glues);
  agree_same = alike_same;
  same_agree = same_alike;
}
