-- Renumberings can be undone and joined, and a numbering goes along with them.
use Rattle.std.specs.Prelude.{◌≡◌, ℕ, zero, suc, ◌<◌, List, map, length, get_or, slice_index_or, refl}
use Rattle.std.proofs.Common.{sym, ◌∙◌, ap, subst, inl, inr, arith}
use Rattle.std.proofs.lemmas.List.{length-map, map_push}
use Rattle.std.proofs.lemmas.Bool.{cases_lt}
use Rattle.origami.specs.Squares.{Into, Apart, Permutes, inverse, Carries, place, added, visited, numbered}
use Rattle.origami.specs.laws.Injections.{undone, redone, inverse_into, inverse_permutes, onto}
use Rattle.origami.specs.laws.Numberings.{Listed, listed_added, order_listed}
use Rattle.origami.specs.laws.Places.{place_map, get_d_map, added_old, added_new}

-- pairs that agree below d
pub carries_same : (d : ℕ) (f g h k : ℕ → ℕ) → ((i : ℕ) → i < d → f i ≡ h i) → ((i : ℕ) → i < d → g i ≡ k i) → Carries d (λ i. i) f g h k
carries_same d f g h k p q = record { permutes = ((λ i l. l), λ i j l m e. e); rights = p; ups = q }

pub carries_join : {d : ℕ} {σ τ f g h k m n : ℕ → ℕ} → Carries d σ f g h k → Carries d τ h k m n → Carries d (λ i. τ (σ i)) f g m n
carries_join {σ = σ} {τ = τ} c e = record {
  permutes = (
    (λ i l. e.permutes.0 (σ i) (c.permutes.0 i l)),
    λ i j l m q. c.permutes.1 i j l m (e.permutes.1 (σ i) (σ j) (c.permutes.0 i l) (c.permutes.0 j m) q),
  );
  rights = λ i l. ap τ (c.rights i l) ∙ e.rights (σ i) (c.permutes.0 i l);
  ups = λ i l. ap τ (c.ups i l) ∙ e.ups (σ i) (c.permutes.0 i l);
}

-- what holds of h at an image of σ, from what holds of f
module _ (d : ℕ) (σ f h : ℕ → ℕ) (p : Permutes d σ) (carried : (i : ℕ) → i < d → σ (f i) ≡ h (σ i)) where
  back : (a : Into d f) (j : ℕ) → j < d → inverse d σ (h j) ≡ f (inverse d σ j)
  back a j l =
      let i = inverse d σ j in
      let b = inverse_into d σ p j l in
      ap (λ y. inverse d σ (h y)) (sym (redone d σ p j l)) ∙ ap (inverse d σ) (sym (carried i b)) ∙ undone d σ p (f i) (a i b)

  carried_permutes : Permutes d f → Permutes d h
  carried_permutes a = (
    λ j l. let o = onto d σ p j l in subst (λ y. h y < d) o.2 (subst (λ y. y < d) (carried o.0 o.1) (p.0 (f o.0) (a.0 o.0 o.1))),
    λ j k l m e.
        let o = onto d σ p j l in
        let q = onto d σ p k m in
        let same : σ (f o.0) ≡ σ (f q.0) = carried o.0 o.1 ∙ ap h o.2 ∙ e ∙ sym (ap h q.2) ∙ sym (carried q.0 q.1) in
        let fs = p.1 (f o.0) (f q.0) (a.0 o.0 o.1) (a.0 q.0 q.1) same in
        sym o.2 ∙ ap σ (a.1 o.0 q.0 o.1 q.1 fs) ∙ q.2,
  )

module _ {d : ℕ} {σ f g h k : ℕ → ℕ} (c : Carries d σ f g h k) where
  pub carries_back : Into d f → Into d g → Carries d (inverse d σ) h k f g
  carries_back a b = record {
    permutes = inverse_permutes d σ c.permutes;
    rights = back d σ f h c.permutes c.rights a;
    ups = back d σ g k c.permutes c.ups b;
  }

  pub carries_permutes_right : Permutes d f → Permutes d h
  carries_permutes_right = carried_permutes d σ f h c.permutes c.rights

  pub carries_permutes_up : Permutes d g → Permutes d k
  carries_permutes_up = carried_permutes d σ g k c.permutes c.ups

-- growing a list goes along with σ
added_map : (d : ℕ) (σ : ℕ → ℕ) → Apart d σ → (y x : ℕ) (xs : List ℕ) → y < d → Listed (λ z. z < d) x xs → added (σ y) (map σ xs) ≡ map σ (added y xs)
added_map d σ a y x xs l s = elim (cases_lt (place y xs) (length xs)) [
  | inl b ↦ added_old (σ y) (map σ xs) (omega (arith, same, long)) ∙ ap (map σ) (sym (added_old y xs b))
  | inr b ↦ added_new (σ y) (map σ xs) (omega (arith, same, long)) ∙ sym (map_push σ xs y) ∙ ap (map σ) (sym (added_new y xs b))
]
  where
    same : place (σ y) (map σ xs) ≡ place y xs
    same = place_map d σ a y x xs l s.all

    long : length (map σ xs) ≡ length xs
    long = length-map xs σ

module _ {d : ℕ} {σ f g h k : ℕ → ℕ} (c : Carries d σ f g h k) (a : Into d f) (b : Into d g) (x : ℕ) (lx : x < d) where
  pub numbered_map : (n : ℕ) → numbered h k (σ x) n ≡ map σ (numbered f g x n)
  numbered_map zero = refl
  numbered_map (suc n) =
      let xs = numbered f g x n in
      let y = get_or xs n x in
      let s = order_listed d f g a b x lx n in
      let ly = s.all n in
      let t = listed_added x (f y) xs (a y ly) s in
      ap (λ zs. visited h k (slice_index_or zs n (σ x)) zs) (numbered_map n)
      ∙ ap (λ z. visited h k z (map σ xs)) (get_d_map σ xs n x)
      ∙ (λ i. added (sym (c.ups y ly) i) (added (sym (c.rights y ly) i) (map σ xs)))
      ∙ ap (added (σ (g y))) (added_map d σ c.permutes.1 (f y) x xs (a y ly) s)
      ∙ added_map d σ c.permutes.1 (g y) x (added (f y) xs) (b y ly) t
