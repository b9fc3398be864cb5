-- The action on matrices keeps the laws of an action.
use Rattle.std.specs.Prelude.{◌≡◌, ℕ, ◌<◌, List, [], ◌∷◌, pos, Decides, refl}
use Rattle.std.proofs.Common.{subst}
use Rattle.numbers.specs.Residues.{Cong}
use Rattle.numbers.proofs.Congruence.{cong_refl, cong_sym, cong_trans, cong_add, cong_neg, cong_mul}
use Rattle.numbers.proofs.Ring.{solve, ◌⊕◌, ◌⊗◌, ◌⊝◌, ⊖◌, ◌≐◌}
use Rattle.modular.specs.Actions.{Laws}
use Rattle.modular.specs.Matrix.{M2, det, identity}
use Rattle.std.proofs.lemmas.Slice.Eq.{bytes_eq-Decides}
use Rattle.std.proofs.lemmas.Bool.{and_parts, and_from}
use Rattle.levels.specs.laws.Models.{Pictures, four_s, three_st}
use Rattle.levels.specs.laws.Residues.{from_cong, back, t_left, t_right, s_left, s_right}
use Rattle.levels.specs.Matrices.{reduced, entries, Unimodular, first, shear, turn, sheared, turned, alike}

-- two squares with equal entries are equal
pub same : {a b c d e f g h : ℕ} → a ≡ e → b ≡ f → c ≡ g → d ≡ h →
    (a ∷ b ∷ []) ∷ (c ∷ d ∷ []) ∷ [] ≡ (e ∷ f ∷ []) ∷ (g ∷ h ∷ []) ∷ []
same p q r s = λ i. (p i ∷ q i ∷ []) ∷ (r i ∷ s i ∷ []) ∷ []

module _ (n : ℕ) (h : 0 < n) where
  pub reduced_pictures : Pictures (reduced n) (sheared n) (turned n)
  reduced_pictures = record {
    t_is = λ x. same (t_left n h x.a x.b) (t_right n h x.a x.b) (t_left n h x.c x.d) (t_right n h x.c x.d);
    s_is = λ x. same (s_left n h x.a x.b) (s_right n h x.a x.b) (s_left n h x.c x.d) (s_right n h x.c x.d);
  }

  pub det→unimodular : (x : M2) → Cong n (det x) (pos 1) → Unimodular n (reduced n x)
  det→unimodular x k = record {
    kept = same (from_cong n h (cong_sym (back n h x.a))) (from_cong n h (cong_sym (back n h x.b)))
        (from_cong n h (cong_sym (back n h x.c))) (from_cong n h (cong_sym (back n h x.d)));
    one = cong_trans (cong_add (cong_mul (back n h x.a) (back n h x.d)) (cong_neg (cong_mul (back n h x.b) (back n h x.c)))) k;
  }

pub alike_decides : (m k : List (List ℕ)) → Decides (alike m k) (m ≡ k)
alike_decides [] [] = (λ e. refl, λ e. refl)
alike_decides [] (s ∷ k) = (λ e. cc, λ e. cc)
alike_decides (r ∷ m) [] = (λ e. cc, λ e. cc)
alike_decides (r ∷ m) (s ∷ k) = (
  λ e. let p = and_parts _ _ e in let q = (bytes_eq-Decides r s).0 p.0 in let o = (alike_decides m k).0 p.1 in cc,
  λ e. and_from _ _ ((bytes_eq-Decides r s).1 (cc)) ((alike_decides m k).1 (cc)),
)

shear_det : (x : M2) → det x ≡ det (shear x)
shear_det x = solve 4 (λ a b c d. a ⊗ d ⊝ b ⊗ c ≐ a ⊗ (c ⊕ d) ⊝ (a ⊕ b) ⊗ c) tt x.a x.b x.c x.d

turn_det : (x : M2) → det x ≡ det (turn x)
turn_det x = solve 4 (λ a b c d. a ⊗ d ⊝ b ⊗ c ≐ b ⊗ ⊖ c ⊝ ⊖ a ⊗ d) tt x.a x.b x.c x.d

pub matrix_laws : (n : ℕ) → 0 < n → Laws (Unimodular n) (first n) (sheared n) (turned n) alike
matrix_laws n h = record {
  first_point = det→unimodular n h identity cong_refl;
  t_point = λ m p. det→unimodular n h (shear (entries m)) (subst (λ z. Cong n z (pos 1)) (shear_det (entries m)) p.one);
  s_point = λ m p. det→unimodular n h (turn (entries m)) (subst (λ z. Cong n z (pos 1)) (turn_det (entries m)) p.one);
  four_s = λ m p. four_s (reduced_pictures n h) (entries m) p.kept;
  three_st = λ m p. three_st (reduced_pictures n h) (entries m) p.kept;
  agree_same = λ m k. (alike_decides m k).0;
  same_agree = λ m k. (alike_decides m k).1;
}
