-- Matrices whose entries are within a limit.
use Rattle.std.proofs.Common.{◌≡◌, ℕ, ◌≤◌, Bool, true, false, ◌&&◌, leb, List, [], ◌∷◌, ◌++◌, ℤ, pos, negsuc, nat_abs, Some, None, Option, sym, refl, ap, ◌∙◌, arith, w64, SFits}
use borrow.Author.Differences.{ints}
use Rattle.std.specs.Option.{SomeIff}
use Rattle.std.proofs.lemmas.Bool.{and_parts, leb-true}
use Rattle.modular.specs.declared.letter.Letter.{Letter}
use Rattle.modular.specs.Matrix.{M2, Fits, identity, ◌·◌}
use Rattle.modular.specs.Words.{of_letter, matrix}
use Rattle.modular.proofs.Products.{identity_left, identity_right, product_assoc}
use Rattle.table.specs.Questions.{within, prefixes}

-- each entry, told by the test
pub record Within (n : ℕ) (x : M2) : Type 0 where
  pub a : nat_abs x.a ≤ n
  pub b : nat_abs x.b ≤ n
  pub c : nat_abs x.c ≤ n
  pub d : nat_abs x.d ≤ n

pub within_entries : (n : ℕ) (x : M2) → within n x ≡ true → Within n x
within_entries n x h =
    let p = and_parts (leb (nat_abs x.a) n && leb (nat_abs x.b) n) (leb (nat_abs x.c) n && leb (nat_abs x.d) n) h in
    let q = and_parts (leb (nat_abs x.a) n) (leb (nat_abs x.b) n) p.0 in
    let r = and_parts (leb (nat_abs x.c) n) (leb (nat_abs x.d) n) p.1 in
    record { a = leb-true _ n q.0; b = leb-true _ n q.1; c = leb-true _ n r.0; d = leb-true _ n r.1 }

-- a number within a thousand million fits
small_fits : (z : ℤ) (n : ℕ) → nat_abs z ≤ n → n ≤ 1000000000 → SFits w64 z
small_fits (pos m) n h l = omega (arith, ints)
small_fits (negsuc m) n h l = omega (arith, ints)

pub within_fits : (n : ℕ) (x : M2) → n ≤ 1000000000 → within n x ≡ true → Fits x
within_fits n x l h =
    let w = within_entries n x h in
    record { a = small_fits x.a n w.a l; b = small_fits x.b n w.b l; c = small_fits x.c n w.c l; d = small_fits x.d n w.d l }

-- the beginnings of a word, one letter on
pub prefix_on : (n : ℕ) (x : M2) (g : Letter) (w : List Letter) → within n x ≡ true → prefixes n x (g ∷ w) ≡ prefixes n (x · of_letter g) w
prefix_on n x g w h = ap (λ b. b && prefixes n (x · of_letter g) w) h

pub prefix_stop : (n : ℕ) (x : M2) (w : List Letter) → within n x ≡ false → prefixes n x w ≡ false
prefix_stop n x [] h = h
prefix_stop n x (g ∷ w) h = ap (λ b. b && prefixes n (x · of_letter g) w) h

and_assoc : (a b c : Bool) → (a && (b && c)) ≡ ((a && b) && c)
and_assoc true b c = refl
and_assoc false b c = refl

-- a word with one letter more
prefix_from : (n : ℕ) (x : M2) (w : List Letter) (g : Letter) → prefixes n x (w ++ g ∷ []) ≡ (prefixes n x w && within n ((x · matrix w) · of_letter g))
prefix_from n x [] g = ap (λ y. within n x && within n (y · of_letter g)) (sym (identity_right x))
prefix_from n x (h ∷ w) g =
    ap (λ b. within n x && b) (prefix_from n (x · of_letter h) w g)
    ∙ and_assoc (within n x) (prefixes n (x · of_letter h) w) (within n (((x · of_letter h) · matrix w) · of_letter g))
    ∙ ap (λ y. (within n x && prefixes n (x · of_letter h) w) && within n (y · of_letter g)) (product_assoc x (of_letter h) (matrix w))

pub prefix_more : (n : ℕ) (w : List Letter) (g : Letter) → prefixes n identity (w ++ g ∷ []) ≡ (prefixes n identity w && within n (matrix w · of_letter g))
prefix_more n w g = prefix_from n identity w g ∙ ap (λ y. prefixes n identity w && within n (y · of_letter g)) (identity_left (matrix w))

-- the last of the beginnings is the word itself
whole_from : (n : ℕ) (x : M2) (w : List Letter) → prefixes n x w ≡ true → within n (x · matrix w) ≡ true
whole_from n x [] h = ap (within n) (identity_right x) ∙ h
whole_from n x (g ∷ w) h = ap (within n) (sym (product_assoc x (of_letter g) (matrix w))) ∙ whole_from n (x · of_letter g) w (and_parts (within n x) _ h).1

pub prefix_whole : (n : ℕ) (w : List Letter) → prefixes n identity w ≡ true → within n (matrix w) ≡ true
prefix_whole n w h = ap (within n) (sym (identity_left (matrix w))) ∙ whole_from n identity w h

-- an answer told by one condition is told by any other that says the same
pub checked_as : {X : Type 0} (r : Option X) (P Q : Type 0) (v w : X) → (P → Q) → (Q → P) → v ≡ w → SomeIff r P v → SomeIff r Q w
checked_as None P Q v w f g e h = λ q. h (g q)
checked_as (Some x) P Q v w f g e h = (f h.0, h.1 ∙ e)
