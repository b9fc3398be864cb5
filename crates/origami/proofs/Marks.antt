-- The numbers that the code marks squares with.
use Rattle.std.proofs.Common.{◌≡◌, ℕ, ◌+◌, ◌<◌, ◌≤◌, Option, Some, None, true, false, cond, ltb, List, [], ◌∷◌, ◌++◌, length, get_or, set, sym, refl, ap, ◌∙◌, subst, inl, inr, arith}
use Rattle.std.proofs.lemmas.List.{length_push, get_or_append_left, get_or_push, get_or_past, get_or-set_same, get_or-set_other}
use Rattle.std.proofs.lemmas.Bool.{true≢false, cases_eq, cases_lt, cond-true, cond-false, lt-ltb, le-ltb}
use Rattle.std.proofs.lemmas.Option.{none-some}
use Rattle.std.specs.Option.{is_some, unwrap_or}
use Rattle.origami.specs.declared.numbering.Numbering.{Numbering}
use Rattle.origami.specs.Numberings.{Holds, Room}
use Rattle.origami.specs.Squares.{place, added}
use Rattle.origami.specs.laws.Numberings.{Listed, listed_added, listed_short}
use Rattle.origami.specs.laws.Places.{In, place_le, place_here, place_there, place_before, place_after, added_old, added_new}

-- what the test for a number tells
pub none_is : (o : Option ℕ) → is_some o ≡ false → o ≡ None
none_is None e = refl
none_is (Some x) e = absurd (true≢false e)

pub some_is : (o : Option ℕ) → is_some o ≡ true → o ≡ None → ⊥
some_is None e p = absurd (true≢false (sym e))
some_is (Some x) e p = none-some x (sym p)

-- what a square is marked with, where the squares xs have numbers
abbrev mark : ℕ → List ℕ → Option ℕ
mark y xs = cond (ltb (place y xs) (length xs)) (Some (place y xs)) None

mark_in : (y : ℕ) (xs : List ℕ) → In y xs → mark y xs ≡ Some (place y xs)
mark_in y xs l = cond-true (ltb (place y xs) (length xs)) (Some (place y xs)) None (lt-ltb (place y xs) (length xs) l)

mark_out : (y : ℕ) (xs : List ℕ) → length xs ≤ place y xs → mark y xs ≡ None
mark_out y xs l = cond-false (ltb (place y xs) (length xs)) (Some (place y xs)) None (le-ltb (place y xs) (length xs) l)

module _ (x : ℕ) (xs : List ℕ) (n : Numbering) (h : Holds x xs n) (y : ℕ) (ly : y < 16) where
  -- a square is unmarked exactly where it has no number
  unmarked : get_or n.number y None ≡ None → length xs ≤ place y xs
  unmarked e = elim (cases_lt (place y xs) (length xs)) [
    | inl l ↦ absurd (none-some (place y xs) (sym e ∙ h.number_is y ly ∙ mark_in y xs l))
    | inr l ↦ l
  ]

  marked : (get_or n.number y None ≡ None → ⊥) → In y xs
  marked ne = elim (cases_lt (place y xs) (length xs)) [
    | inl l ↦ l
    | inr l ↦ absurd (ne (h.number_is y ly ∙ mark_out y xs l))
  ]

  pub number_of : unwrap_or (get_or n.number y None) n.count ≡ place y xs
  number_of = elim (cases_lt (place y xs) (length xs)) [
    | inl l ↦ ap (λ o. unwrap_or o n.count) (h.number_is y ly ∙ mark_in y xs l)
    | inr l ↦ ap (λ o. unwrap_or o n.count) (h.number_is y ly ∙ mark_out y xs l) ∙ omega (arith, h.count_is, l, place_le y xs)
  ]

  pub holds_old : (get_or n.number y None ≡ None → ⊥) → Holds x (added y xs) n
  holds_old ne = subst (λ ys. Holds x ys n) (sym (added_old y xs (marked ne))) h

  pub room : (d : ℕ) → d ≤ 16 → y < d → Listed (λ z. z < d) x xs → Room n y
  room d few l s = (
    ly,
    λ e.
        let short = listed_short d x (added y xs) (listed_added x y xs l s) in
        let long = ap length (added_new y xs (unmarked e)) in
        omega (arith, short, long, length_push xs y, h.count_is),
  )

  module _ (e : get_or n.number y None ≡ None) (free : n.count < 16) (os : length n.order ≡ 16) (ns : length n.number ≡ 16) where
    abbrev pub next : Numbering
    next = record { order = set n.order n.count y; number = set n.number y (Some n.count); count = n.count + 1 }

    order_next : (k : ℕ) → k < 16 → get_or (set n.order n.count y) k 0 ≡ get_or (xs ++ y ∷ []) k x
    order_next k l = elim (cases_eq k n.count) [
      | inl q ↦ rw q (get_or-set_same n.order n.count y 0 (omega arith) ∙ sym (get_or_push xs y x n.count (sym h.count_is)))
      | inr q ↦ get_or-set_other n.order n.count k y 0 q ∙ h.order_is k l ∙ elim (cases_lt k (length xs)) [
        | inl b ↦ sym (get_or_append_left xs (y ∷ []) x k b)
        | inr b ↦ get_or_past xs k x b ∙ sym (get_or_past (xs ++ y ∷ []) k x (omega (arith, length_push xs y, h.count_is)))
      ]
    ]

    number_next : (z : ℕ) → z < 16 → get_or (set n.number y (Some n.count)) z None ≡ mark z (xs ++ y ∷ [])
    number_next z l = elim (cases_eq z y) [
      | inl q ↦
          let p = place_after y xs (y ∷ []) (unmarked e) in
          let at : place y (xs ++ y ∷ []) ≡ n.count = omega (arith, p, place_here y y [] refl, h.count_is) in
          rw q (get_or-set_same n.number y (Some n.count) None (omega arith) ∙ sym (mark_in y (xs ++ y ∷ []) (omega (arith, at, length_push xs y, h.count_is)) ∙ ap Some at))
      | inr q ↦ get_or-set_other n.number y z (Some n.count) None q ∙ h.number_is z l ∙ elim (cases_lt (place z xs) (length xs)) [
        | inl b ↦
            let p = place_before z xs (y ∷ []) b in
            mark_in z xs b ∙ ap Some (sym p) ∙ sym (mark_in z (xs ++ y ∷ []) (omega (arith, p, length_push xs y)))
        | inr b ↦
            let p = place_after z xs (y ∷ []) b in
            let t = place_there z y [] (λ w. q (sym w)) in
            mark_out z xs b ∙ sym (mark_out z (xs ++ y ∷ []) (omega (arith, p, t, length_push xs y)))
      ]
    ]

    pub holds_new : Holds x (added y xs) next
    holds_new = subst (λ ys. Holds x ys next) (sym (added_new y xs (unmarked e))) (record {
      few = omega (arith, length_push xs y, h.count_is);
      count_is = omega (arith, length_push xs y, h.count_is);
      order_is = order_next;
      number_is = number_next;
    })

-- one square has the number 0
pub holds_first : (x : ℕ) (order : List ℕ) (number : List (Option ℕ)) → x < 16
    → ((k : ℕ) → k < 16 → get_or order k 0 ≡ x) → length number ≡ 16 → ((k : ℕ) → k < 16 → get_or number k None ≡ None)
    → Holds x (x ∷ []) (record { order = order; number = set number x (Some 0); count = 1 })
holds_first x order number l o ln n = record {
  few = omega arith;
  count_is = refl;
  order_is = λ k b. o k b ∙ sym (one k);
  number_is = λ y b. elim (cases_eq y x) [
    | inl q ↦
        let p = place_here x x [] refl in
        rw q (get_or-set_same number x (Some 0) None (omega arith) ∙ sym (mark_in x (x ∷ []) (omega (arith, p)) ∙ ap Some p))
    | inr q ↦ get_or-set_other number x y (Some 0) None q ∙ n y b ∙ sym (mark_out y (x ∷ []) (omega (arith, place_there y x [] (λ w. q (sym w)))))
  ];
}
  where
    one : (k : ℕ) → get_or (x ∷ []) k x ≡ x
    one Prim.Native.Nat.zero = refl
    one (Prim.Native.Nat.suc k) = refl
