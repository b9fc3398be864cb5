-- What `<` on two gluings of one degree says of which is earlier.
use Rattle.std.proofs.Common.{◌≡◌, ℕ, Bool, List, [], ◌∷◌, ◌++◌, length, sym, refl, ap, ◌∙◌, arith}
use Rattle.std.specs.declared.option.Option.{Option}
use Rattle.std.specs.declared.option.Option.TheVariants.{Some}
use Rattle.std.specs.declared.cmp.Ordering.{Ordering}
use Rattle.std.specs.declared.cmp.Ordering.TheVariants.{Less, Equal, Greater}
use Rattle.std.specs.Cmp.{nat_cmp_is}
use Rattle.std.specs.Cmp.Lexicographic.{slice_partial_cmp}
use Rattle.std.specs.Ordering.{is_lt, is_some_and, nat_cmp, partial_lt, partial_ordering_then}
use Rattle.std.proofs.lemmas.Cmp.{same_from_slice_cmp_tested}
use Rattle.std.proofs.lemmas.Bool.Decides.{nat_tests}
use Rattle.origami.specs.declared.gluing.Gluing.{Gluing}
use Rattle.origami.specs.contracts.gluing.GluingPartialOrd as contract
use Rattle.origami.specs.Forms.{less, earlier}

-- the order of lists by the first entry that differs
abbrev order : List ℕ → List ℕ → Option Ordering
order = slice_partial_cmp (λ x y. Some (nat_cmp x y))

lt_is : (xs ys : List ℕ) (r : Bool) → r ≡ partial_lt order xs ys → r ≡ less xs ys
lt_is = same_from_slice_cmp_tested nat_cmp is_lt less refl (λ _ _. refl) (λ _ _. refl) (λ x y xs ys o h. grind (arith, nat_tests))

then_assoc : (o : Ordering) (p q : Option Ordering)
    → partial_ordering_then (partial_ordering_then (Some o) p) q ≡ partial_ordering_then (Some o) (partial_ordering_then p q)
then_assoc Less p q = refl
then_assoc Equal p q = refl
then_assoc Greater p q = refl

-- lists of one length, and then others behind them
order_append : (xs ys us vs : List ℕ) → length xs ≡ length ys → partial_ordering_then (order xs ys) (order us vs) ≡ order (xs ++ us) (ys ++ vs)
order_append [] [] us vs e = refl
order_append [] (y ∷ ys) us vs e = absurd (omega arith)
order_append (x ∷ xs) [] us vs e = absurd (omega arith)
order_append (x ∷ xs) (y ∷ ys) us vs e =
    then_assoc (nat_cmp x y) (order xs ys) (order us vs) ∙ ap (partial_ordering_then (Some (nat_cmp x y))) (order_append xs ys us vs (omega arith))

pub lt_is_earlier : (a b : Gluing) (r : Bool) → a.degree ≡ b.degree → length a.right ≡ length b.right
    → r ≡ partial_lt contract.TheImpl.partial_cmp-value.it a b → r ≡ earlier a b
unfolding earlier
lt_is_earlier a b r d l e =
    let behind = partial_ordering_then (order a.right b.right) (order a.up b.up) in
    let one = ap (λ o. partial_ordering_then (Some o) behind) (sym (nat_cmp_is a.degree b.degree Equal d)) in
    lt_is (a.right ++ a.up) (b.right ++ b.up) r (e ∙ ap (is_some_and is_lt) (one ∙ order_append a.right b.right a.up b.up l))
