-- The start comes back exactly when the two records agree.
use Rattle.std.proofs.Common.{◌≡◌, Bool, true, false, T, ◌↔◌, List, sym, ap, ◌∙◌, subst}
use Rattle.modular.specs.declared.letter.Letter.{Letter}
use Rattle.modular.specs.Actions.{Laws, lead, Member}
use Rattle.modular.specs.Words.{matrix}
use Rattle.modular.proofs.Members.{identity_member, product_member, inverse_member, any_word}
use Rattle.modular.proofs.acting.is_member.Goals as goal

module _ {R : Type 0} {Point : R → Type 0} {start : R} {t s : R → R} {agrees : R → R → Bool} (l : Laws Point start t s agrees) where
  agreed : (r : Bool) (p q : R) → r ≡ agrees p q → T r ↔ (p ≡ q)
  agreed true p q e = (λ _. l.agree_same p q (sym e), λ _. tt)
  agreed false p q e = (λ x. absurd x, λ x. subst T (sym (e ∙ l.same_agree p q x)) tt)

  told : (r : Bool) (w : List Letter) (first led : R) → first ≡ start → led ≡ lead t s w first → r ≡ agrees led first → T r ↔ Member start t s (matrix w)
  told r w first led f e h =
      let same = agreed r led first h in
      let word = any_word l w in
      let there = e ∙ ap (lead t s w) f in
      (λ x. word.0 (sym there ∙ same.0 x ∙ f), λ m. same.1 (there ∙ word.1 m ∙ sym f))

pub returns : goal.returns
returns g c =
    let l = g.A.Action.laws c.args.action.now in
    record {
      exactly = told l _ c.args.word.now _ _ c.first-first.ensures c.lead_from.ensures.value c.same.ensures;
      identity = identity_member l;
      products = product_member l;
      inverses = inverse_member l;
      any_word = any_word l;
    }
