-- T goes round in cycles, and the width of a row is the length of its cycle.
use Rattle.std.proofs.Common.{◌≡◌, ℕ, zero, suc, ◌+◌, ◌-◌, ◌*◌, ◌<◌, ◌≤◌, cond, List, ◌∷◌, length, sym, refl, ap, ◌∙◌, subst, arith, eq-eqb, ne_eqb}
use native.Mathlib.Decide.{ℕ_discrete}
use Rattle.modular.specs.declared.letter.Letter.TheVariants.{T, S}
use Rattle.modular.specs.Actions.{lead}
use Rattle.modular.specs.Inverses.{back_t}
use Rattle.modular.proofs.Forms.{moves}
use Rattle.modular.proofs.Through.{lead_identity}
use Rattle.table.specs.declared.link.Link.{Link}
use Rattle.table.specs.Links.{next}
use Rattle.table.specs.Soundness.{Sound}
use Rattle.table.specs.Widths.{times, back, width, IsWidth}
use Rattle.table.proofs.Pigeons.{shared}
use Rattle.table.proofs.SoundRows.{links_laws}

pub times_add : (f : ℕ → ℕ) (a b r : ℕ) → times (a + b) f r ≡ times a f (times b f r)
times_add f zero b r = let z : 0 + b ≡ b = omega arith in ap (λ n. times n f r) z
times_add f (suc a) b r = let z : suc a + b ≡ suc (a + b) = omega arith in ap (λ n. times n f r) z ∙ ap f (times_add f a b r)

-- round and round
pub times_round : (f : ℕ → ℕ) (w r : ℕ) → times w f r ≡ r → (m : ℕ) → times (m * w) f r ≡ r
times_round f w r e zero = let z : 0 * w ≡ 0 = omega arith in ap (λ n. times n f r) z
times_round f w r e (suc m) =
    let z : suc m * w ≡ m * w + w = omega arith in
    ap (λ n. times n f r) z ∙ times_add f (m * w) w r ∙ ap (times (m * w) f) e ∙ times_round f w r e m

module _ (links : List Link) (k : Sound links) where
  abbrev t : ℕ → ℕ
  t = next links T

  pub times_row : (m r : ℕ) → r < length links → times m t r < length links
  times_row zero r h = h
  times_row (suc m) r h = k.below T (times m t r) (times_row m r h)

  -- T can be taken back
  t_apart : (p q : ℕ) → p < length links → q < length links → t p ≡ t q → p ≡ q
  t_apart p q h l e =
      let m = moves (links_laws links k) in
      sym (lead_identity m (T ∷ back_t) p h refl) ∙ ap (lead t (next links S) back_t) e ∙ lead_identity m (T ∷ back_t) q l refl

  pub times_apart : (m p q : ℕ) → p < length links → q < length links → times m t p ≡ times m t q → p ≡ q
  times_apart zero p q h l e = e
  times_apart (suc m) p q h l e = times_apart m p q h l (t_apart (times m t p) (times m t q) (times_row m p h) (times_row m q l) e)

  -- each row comes back, at the latest after as many steps as there are rows
  pub comes_back : (r : ℕ) → r < length links → (j : ℕ) × (0 < j) × (j ≤ length links) × (times j t r ≡ r)
  comes_back r h =
      let s = shared (length links) (λ m. times m t r) (λ i l. times_row i r h) in
      let j = s.j - s.i in
      let z : s.i + j ≡ s.j = omega (arith, s.apart) in (
        j,
        omega (arith, s.apart),
        omega (arith, s.within),
        sym (times_apart s.i r (times j t r) h (times_row j r h) (s.same ∙ sym (ap (λ n. times n t r) z) ∙ times_add t s.i j r)),
      )

  -- the first return from step k on
  record First (r from w : ℕ) : Type 0 where
    reached : times w t r ≡ r
    later : from ≤ w
    none : (m : ℕ) → from ≤ m → times m t r ≡ r → w ≤ m

  back_first : (n r from j : ℕ) → from ≤ j → j ≤ from + n → times j t r ≡ r → First r from (back links n (times from t r) r from)
  back_first zero r from j a b e = let z : j ≡ from = omega arith in record {
    reached = sym (ap (λ n. times n t r) z) ∙ e;
    later = omega arith;
    none = λ m h f. h;
  }
  back_first (suc n) r from j a b e = elim (ℕ_discrete (times from t r) r) [
    | yes x ↦ subst (First r from) (sym (ap (λ c. cond c from (back links n (t (times from t r)) r (suc from))) (eq-eqb (times from t r) r x))) (record {
      reached = x;
      later = omega arith;
      none = λ m h f. h;
    })
    | no x ↦
        let ahead : suc from ≤ j = elim (ℕ_discrete from j) [ yes y ↦ absurd (x (ap (λ n. times n t r) y ∙ e)) | no y ↦ omega arith ] in
        let f = back_first n r (suc from) j ahead (omega arith) e in
        subst (First r from) (sym (ap (λ c. cond c from (back links n (t (times from t r)) r (suc from))) (ne_eqb (times from t r) r x))) (record {
          reached = f.reached;
          later = omega (arith, f.later);
          none = λ m h g. elim (ℕ_discrete from m) [ yes y ↦ absurd (x (ap (λ n. times n t r) y ∙ g)) | no y ↦ f.none m (omega arith) g ];
        })
  ]

  -- the width of a row is the least positive number of T steps that leads back to it
  pub width_is : (r : ℕ) → r < length links → IsWidth links r (width links r)
  width_is r h =
      let j = comes_back r h in
      let f = back_first (length links) r 1 j.0 (omega arith) (omega arith) j.3 in
      record { some = omega (arith, f.later); returns = f.reached; least = λ m p e. f.none m (omega arith) e }
