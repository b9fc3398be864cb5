-- The rows of a grown table are a beginning of all reachable points, in the order of their least words; once all edges are filled,
-- they are all of them.
use Rattle.std.proofs.Common.{◌≡◌, ℕ, ◌*◌, ◌<◌, List, reverse, length, get_or, sym, ◌∙◌, subst, inl, inr, arith}
use mathlib.Core.List.{reverse-reverse}
use Rattle.std.proofs.lemmas.Bool.{cases_lt}
use Rattle.table.specs.Order.{Less, Listed, Whole}
use Rattle.table.proofs.Codes.{code, less_code, code_less, lead_place, place_reverse}
use Rattle.table.proofs.Growth.{Grown, reached, reached_up_to, least}

module _ {R : Type 0} {start : R} {t s : R → R} {row : ℕ → R} {to from : ℕ → ℕ} {h f : ℕ} (g : Grown start t s row to from h f)
    (ps : List R) (as_many : length ps ≡ h) (holds : (i : ℕ) (d : R) → i < h → get_or ps i d ≡ row i) where
  pub grown_listed : Listed start t s ps
  grown_listed = record {
    word = λ i. reverse (g.word i);
    of = λ i d l. record {
      leads = lead_place start t s (g.word i) ∙ g.led i (omega arith) ∙ sym (holds i d (omega arith));
      least = λ v q less. least start t s g i (omega arith) (reverse v) (place_reverse start t s v ∙ q ∙ holds i d (omega arith))
          (less_code (reverse v) (g.word i) (subst (λ u. Less u (reverse (g.word i))) (sym (reverse-reverse v)) less));
    };
    rise = λ i j l m. code_less (g.word i) (g.word j) (g.rise i j l (omega arith));
    beyond = λ p w least-w none i l. elim (cases_lt (code (g.word i)) (code (reverse w))) [
      | inl k ↦ subst (λ u. Less (reverse (g.word i)) u) (reverse-reverse w) (code_less (g.word i) (reverse w) k)
      | inr k ↦
          let (j, m, q, c) = reached_up_to start t s g i (omega arith) (reverse w) k in
          absurd (none (j, omega arith, holds j p m ∙ q ∙ place_reverse start t s w ∙ least-w.leads))
    ];
  }

  pub grown_whole : f ≡ 2 * h → Whole start t s ps
  grown_whole q p (w, leads) =
      let (j, m, e, c) = reached start t s g (reverse w) (λ e k b. absurd (omega arith)) in
      (j, omega arith, holds j p m ∙ e ∙ place_reverse start t s w ∙ leads)
