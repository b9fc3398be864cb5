-- The two steps on gluings go along with renumberings and keep gluings, and the two laws hold up to a renumbering.
use Rattle.std.specs.Prelude.{◌≡◌, ℕ, ◌<◌, ◌≤◌, refl}
use Rattle.std.proofs.Common.{sym, ◌∙◌, ap, subst}
use Rattle.origami.specs.declared.gluing.Gluing.{Gluing}
use Rattle.origami.specs.Gluings.{right_of, up_of, Glues, Renumbered, sheared, turned}
use Rattle.origami.specs.Squares.{Permutes, inverse, Carries}
use Rattle.origami.specs.laws.Injections.{joined_permutes, undone, redone, inverse_into, inverse_permutes}
use Rattle.origami.specs.laws.Leasts.{glued_whole, carried_glues}
use Rattle.origami.specs.laws.Padded.{padded_at}
use Rattle.origami.specs.laws.Renumberings.{carries_same, carries_join}
use Rattle.origami.specs.laws.Wholes.{sheared_permutes, sheared_whole, turned_whole}

-- the steps on a gluing are the steps on the pair that it is carried to

sheared_carries : (g : Gluing) {σ f k : ℕ → ℕ} → Glues g → Carries g.degree σ (right_of g) (up_of g) f k
    → Carries g.degree σ (right_of (sheared g)) (up_of (sheared g)) f (λ i. k (f i))
sheared_carries g {σ} {f} {k} h c = record {
  permutes = c.permutes;
  rights = c.rights;
  ups = λ i l. ap σ (padded_at g.degree (λ i. up_of g (right_of g i)) h.few i l) ∙ c.ups (right_of g i) (h.rights.0 i l) ∙ ap k (c.rights i l);
}

turned_carries : (g : Gluing) {σ f k : ℕ → ℕ} → Glues g → Permutes g.degree f → Carries g.degree σ (right_of g) (up_of g) f k
    → Carries g.degree σ (right_of (turned g)) (up_of (turned g)) k (inverse g.degree f)
turned_carries g {σ} {f} {k} h p c = record {
  permutes = c.permutes;
  rights = c.ups;
  ups = λ i l. ap σ (padded_at d (inverse d (right_of g)) h.few i l) ∙ left i l;
}
  where
    d : ℕ
    d = g.degree

    left : (i : ℕ) → i < d → σ (inverse d (right_of g) i) ≡ inverse d f (σ i)
    left i l =
        let j = inverse d (right_of g) i in
        let b = inverse_into d (right_of g) h.rights i l in
        sym (undone d f p (σ j) (c.permutes.0 j b)) ∙ ap (inverse d f) (sym (c.rights j b) ∙ ap σ (redone d (right_of g) h.rights i l))

same_pair : (g : Gluing) → Carries g.degree (λ i. i) (right_of g) (up_of g) (right_of g) (up_of g)
same_pair g = carries_same g.degree (right_of g) (up_of g) (right_of g) (up_of g) (λ i l. refl) (λ i l. refl)

-- and the other way round
sheared_pair : (g : Gluing) → g.degree ≤ 16 → Carries g.degree (λ i. i) (right_of g) (λ i. up_of g (right_of g i)) (right_of (sheared g)) (up_of (sheared g))
sheared_pair g few = carries_same g.degree (right_of g) (λ i. up_of g (right_of g i)) (right_of (sheared g)) (up_of (sheared g)) (λ i l. refl)
    (λ i l. sym (padded_at g.degree (λ i. up_of g (right_of g i)) few i l))

turned_pair : (g : Gluing) → g.degree ≤ 16 → Carries g.degree (λ i. i) (up_of g) (inverse g.degree (right_of g)) (right_of (turned g)) (up_of (turned g))
turned_pair g few = carries_same g.degree (up_of g) (inverse g.degree (right_of g)) (right_of (turned g)) (up_of (turned g)) (λ i l. refl)
    (λ i l. sym (padded_at g.degree (inverse g.degree (right_of g)) few i l))

module _ (g : Gluing) (h : Glues g) where
  pub sheared_glues : Glues (sheared g)
  sheared_glues = carried_glues (sheared g) (right_of g) (λ i. up_of g (right_of g i)) h.some h.few h.rights
      (sheared_permutes g.degree (right_of g) (up_of g) h.rights h.ups (glued_whole g h))
      (sheared_whole g.degree (right_of g) (up_of g) h.rights h.ups (glued_whole g h)) (sheared_pair g h.few)

  pub turned_glues : Glues (turned g)
  turned_glues = carried_glues (turned g) (up_of g) (inverse g.degree (right_of g)) h.some h.few h.ups
      (inverse_permutes g.degree (right_of g) h.rights) (turned_whole g.degree (right_of g) (up_of g) h.rights h.ups (glued_whole g h)) (turned_pair g h.few)

-- the steps go along with renumberings
module _ (g k : Gluing) (h : Glues g) (j : Glues k) (r : Renumbered g k) where
  pub sheared_renumbered : Renumbered (sheared g) (sheared k)
  sheared_renumbered =
      let c = subst (λ n. Carries n (λ i. i) (right_of k) (λ i. up_of k (right_of k i)) (right_of (sheared k)) (up_of (sheared k))) (sym r.0) (sheared_pair k j.few) in
      (r.0, r.1, carries_join (sheared_carries g h r.2) c)

  pub turned_renumbered : Renumbered (turned g) (turned k)
  turned_renumbered =
      let c = subst (λ n. Carries n (λ i. i) (up_of k) (inverse n (right_of k)) (right_of (turned k)) (up_of (turned k))) (sym r.0) (turned_pair k j.few) in
      let p = subst (λ n. Permutes n (right_of k)) (sym r.0) j.rights in
      (r.0, r.1, carries_join (turned_carries g h p r.2) c)

-- the laws on pairs of permutations
module _ (d : ℕ) (f k : ℕ → ℕ) (p : Permutes d f) (q : Permutes d k) where
  twice_inverse : (i : ℕ) → i < d → inverse d (inverse d f) i ≡ f i
  twice_inverse i l = ap (inverse d (inverse d f)) (sym (undone d f p i l)) ∙ undone d (inverse d f) (inverse_permutes d f p) (f i) (p.0 i l)

  -- the renumbering of the second law: up, and then back from right
  abbrev diagonal : ℕ → ℕ
  diagonal i = inverse d f (k i)

  abbrev thrice : ℕ → ℕ
  thrice i = inverse d k (diagonal i)

  diagonal_permutes : Permutes d diagonal
  diagonal_permutes = joined_permutes d k (inverse d f) q (inverse_permutes d f p)

  thrice_permutes : Permutes d thrice
  thrice_permutes = joined_permutes d diagonal (inverse d k) diagonal_permutes (inverse_permutes d k q)

  diagonal_carries : Carries d diagonal thrice (λ i. inverse d diagonal (thrice i)) (inverse d f) (inverse d k)
  diagonal_carries = record {
    permutes = diagonal_permutes;
    rights = λ i l. ap (inverse d f) (redone d k q (diagonal i) (diagonal_permutes.0 i l));
    ups = λ i l. redone d diagonal diagonal_permutes (thrice i) (thrice_permutes.0 i l);
  }

-- the laws on gluings
module _ (g : Gluing) (h : Glues g) where
  pub four_turns : Renumbered (turned (turned (turned (turned g)))) g
  four_turns =
      let d = g.degree in
      let f = right_of g in
      let k = up_of g in
      let one = turned_carries g h h.rights (same_pair g) in
      let h1 = turned_glues g h in
      let two = turned_carries (turned g) h1 h.ups one in
      let h2 = turned_glues (turned g) h1 in
      let three = turned_carries (turned (turned g)) h2 (inverse_permutes d f h.rights) two in
      let h3 = turned_glues (turned (turned g)) h2 in
      let four = turned_carries (turned (turned (turned g))) h3 (inverse_permutes d k h.ups) three in
      let back = carries_same d (inverse d (inverse d f)) (inverse d (inverse d k)) f k
      (twice_inverse d f k h.rights h.ups) (twice_inverse d k f h.ups h.rights) in
      (refl, (λ i. i), carries_join four back)

  pub turned_sheared_glues : Glues (sheared (turned g))
  turned_sheared_glues = sheared_glues (turned g) (turned_glues g h)

  -- S and then T, on the pair that g is carried to
  turned_sheared_carries : {σ f k : ℕ → ℕ} → Permutes g.degree f → Carries g.degree σ (right_of g) (up_of g) f k
      → Carries g.degree σ (right_of (sheared (turned g))) (up_of (sheared (turned g))) k (λ i. inverse g.degree f (k i))
  turned_sheared_carries p c = sheared_carries (turned g) (turned_glues g h) (turned_carries g h p c)

  twice_turned_pair : Carries g.degree (λ i. i) (inverse g.degree (right_of g)) (inverse g.degree (up_of g)) (right_of (turned (turned g))) (up_of (turned (turned g)))
  twice_turned_pair = carries_same g.degree (inverse g.degree (right_of g)) (inverse g.degree (up_of g)) (right_of (turned (turned g))) (up_of (turned (turned g)))
      (λ i l. sym (padded_at g.degree (inverse g.degree (right_of g)) h.few i l))
      (λ i l. sym (padded_at g.degree (inverse g.degree (up_of g)) h.few i l))

pub three_turns : (g : Gluing) → Glues g → Renumbered (sheared (turned (sheared (turned (sheared (turned g)))))) (turned (turned g))
three_turns g h =
    let d = g.degree in
    let f = right_of g in
    let k = up_of g in
    let one = turned_sheared_carries g h h.rights (same_pair g) in
    let h1 = turned_sheared_glues g h in
    let two = turned_sheared_carries (sheared (turned g)) h1 h.ups one in
    let h2 = turned_sheared_glues (sheared (turned g)) h1 in
    let three = turned_sheared_carries (sheared (turned (sheared (turned g)))) h2 (diagonal_permutes d f k h.rights h.ups) two in
    (refl, _, carries_join (carries_join three (diagonal_carries d f k h.rights h.ups)) (twice_turned_pair g h))
