-- One letter more is one step more.
use Rattle.std.proofs.Common.{◌≡◌, ℕ, ◌+◌, ◌<◌, ◌≤◌, List, [], ◌∷◌, length, get_or, take, sym, ap, ◌∙◌}
use Rattle.std.proofs.lemmas.List.{take_more, take_all}
use Rattle.modular.specs.declared.letter.Letter.{Letter}
use Rattle.modular.specs.declared.letter.Letter.TheVariants.{T}
use Rattle.modular.specs.Actions.{lead}
use Rattle.modular.proofs.Members.{through_matrix}
use Rattle.modular.proofs.Reaching.{has_word}
use Rattle.modular.proofs.Through.{lead_append}
use Rattle.modular.proofs.acting.lead_from.Goals as goal

-- q is where i letters lead, and r is one step further
next : {R : Type 0} (t s : R → R) (w : List Letter) (i : ℕ) (p q r : R) → i < length w
    → q ≡ lead t s (take i w) p → r ≡ lead t s (get_or w i T ∷ []) q → r ≡ lead t s (take (i + 1) w) p
next t s w i p q r h e f = f ∙ ap (lead t s (get_or w i T ∷ [])) e
    ∙ sym (lead_append t s (take i w) (get_or w i T ∷ []) p) ∙ ap (λ v. lead t s v p) (sym (take_more w i T h))

pub loop-letter-preserved : goal.loop-letter-preserved
loop-letter-preserved g c = next _ _ c.args.word.now _ c.args.from _ _ c.loop-letter-test.true c.loop-letter.invariant c.step-p.ensures

-- all letters are walked
done : {R : Type 0} (t s : R → R) (w : List Letter) (i : ℕ) (p q : R) → length w ≤ i → q ≡ lead t s (take i w) p → q ≡ lead t s w p
done t s w i p q h e = e ∙ ap (λ v. lead t s v p) (take_all i w h)

pub returns : goal.returns
returns g c = record {
  value = done _ _ c.args.word.now c.loop-letter.letter-index c.args.from _ c.loop-letter-test.false c.loop-letter.invariant;
  through_matrix = through_matrix (g.A.Action.laws c.args.action.now);
  has_word = has_word;
}
