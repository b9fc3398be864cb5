-- The word of a row, letter by letter from its end.
use Rattle.std.proofs.Common.{◌≡◌, ℕ, zero, suc, ◌+◌, ◌-◌, ◌<◌, List, [], ◌∷◌, ◌++◌, length, get_or, take, drop, set, sym, ap, ◌∙◌, inl, inr, append_assoc, arith}
use Rattle.std.proofs.lemmas.List.{length-take-le, take_more, drop_more, same_from_push, set_at, length_push}
use Rattle.std.proofs.lemmas.Bool.{cases_eq}
use Rattle.modular.specs.declared.letter.Letter.{Letter}
use Rattle.modular.specs.declared.letter.Letter.TheVariants.{T}
use Rattle.table.specs.declared.link.Link.{Link}
use Rattle.table.specs.Acting.{spelled}
use Rattle.table.specs.Links.{at}
use Rattle.table.proofs.SoundRows.{spelled_zero, spelled_row}

module _ (links : List Link) where
  -- where k parents are looked at before row q, one of them more
  pub spelled_on : (k q : ℕ) → 0 < k → (q ≡ 0 → ⊥) → length (spelled links k q) ≡ length (spelled links (k - 1) (at links q).parent) + 1
  spelled_on zero q h z = absurd (omega arith)
  spelled_on (suc k) q h z =
      let e : k ≡ suc k - 1 = omega arith in
      ap length (spelled_row links k q (omega arith)) ∙ length_push (spelled links k (at links q).parent) (at links q).letter
      ∙ ap (λ j. length (spelled links j (at links q).parent) + 1) e

  -- the last of k + 1 letters, and the word of the parent
  pub spelled_last : (f q k : ℕ) (w : List Letter) → k < length w → spelled links f q ≡ take (k + 1) w
      → (spelled links (f - 1) (at links q).parent ≡ take k w) × ((at links q).letter ≡ get_or w k T)
  spelled_last zero q k w h e = absurd (omega (arith, ap length e, length-take-le (k + 1) w (omega arith)))
  spelled_last (suc f) q k w h e = elim (cases_eq q 0) [
    | inl z ↦ absurd (omega (arith, ap length (sym (spelled_zero links (suc f)) ∙ ap (spelled links (suc f)) (sym z) ∙ e), length-take-le (k + 1) w (omega arith)))
    | inr n ↦
        let d : suc f - 1 ≡ f = omega arith in
        let p = same_from_push _ _ _ _ (sym (spelled_row links f q (omega arith)) ∙ e ∙ take_more w k T h) in
        (ap (λ j. spelled links j (at links q).parent) d ∙ p.0, p.1)
  ]

-- a write right before what is written already
pub written_before : (out w : List ℕ) (k x : ℕ) → k < length out → k < length w → get_or w k 0 ≡ x
    → set (take (k + 1) out ++ drop (k + 1) w) k x ≡ take k out ++ drop k w
written_before out w k x h l e =
    ap (λ p. set (p ++ drop (k + 1) w) k x) (take_more out k 0 h)
    ∙ ap (λ p. set p k x) (append_assoc (take k out) (get_or out k 0 ∷ []) (drop (k + 1) w))
    ∙ set_at (take k out) (get_or out k 0) (drop (k + 1) w) x k (length-take-le k out (omega arith))
    ∙ ap (λ p. take k out ++ p) (ap (λ y. y ∷ drop (k + 1) w) (sym e) ∙ sym (drop_more w k 0 l))
