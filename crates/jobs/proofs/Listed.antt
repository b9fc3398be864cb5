-- A body says a list of numbers where the fields between its commas say them one by one.
use Rattle.std.proofs.Common.{◌≡◌, ℕ, zero, suc, ◌<◌, Bool, false, eqb, List, [], ◌∷◌, ◌++◌, length, get_or, sym, refl, ap, ◌∙◌, subst, arith}
use Rattle.std.specs.List.{All, slice_split, join_with_byte}
use Rattle.std.proofs.lemmas.Bool.{ne_eqb}
use Rattle.std.proofs.lemmas.List.Elements.{All-from_get_or}
use Rattle.std.proofs.lemmas.List.Splits.{slice_split_none, slice_split_at, length-slice_split, join_with_byte-slice_split}
use Rattle.jobs.specs.Format.{SaysLevel}
use Rattle.jobs.specs.Lists.{SaysList}
use Rattle.jobs.specs.Numbers.{Digits}
use Rattle.jobs.proofs.Fields.{digits_lack}

abbrev pub comma : ℕ → Bool
comma b = eqb b 44

-- each field says its number
abbrev pub EachSays : List (List ℕ) → List ℕ → Type 0
EachSays [] [] = Unit {0}
EachSays [] (n ∷ ns) = ⊥
EachSays (f ∷ fs) [] = ⊥
EachSays (f ∷ fs) (n ∷ ns) = SaysLevel f n × EachSays fs ns

-- one field more
pub says_more : (fs : List (List ℕ)) (ns : List ℕ) (f : List ℕ) (n : ℕ) → EachSays fs ns → SaysLevel f n → EachSays (fs ++ f ∷ []) (ns ++ n ∷ [])
says_more [] [] f n e s = (s, tt)
says_more [] (m ∷ ns) f n e s = absurd e
says_more (g ∷ fs) [] f n e s = absurd e
says_more (g ∷ fs) (m ∷ ns) f n e s = (e.0, says_more fs ns f n e.1 s)

-- where each field says a number, so does one of them
pub says_at : (fs : List (List ℕ)) (ns : List ℕ) (k : ℕ) (d : List ℕ) → EachSays fs ns → k < length fs → Digits (get_or fs k d)
says_at [] ns k d e h = absurd (omega arith)
says_at (f ∷ fs) [] k d e h = absurd e
says_at (f ∷ fs) (n ∷ ns) zero d e h = e.0.0
says_at (f ∷ fs) (n ∷ ns) (suc k) d e h = says_at fs ns k d e.1 (omega arith)

-- fields say one list
one_each : (fs : List (List ℕ)) (xs ys : List ℕ) → EachSays fs xs → EachSays fs ys → xs ≡ ys
one_each [] [] [] s t = refl
one_each [] [] (y ∷ ys) s t = absurd t
one_each [] (x ∷ xs) ys s t = absurd s
one_each (f ∷ fs) [] ys s t = absurd s
one_each (f ∷ fs) (x ∷ xs) [] s t = absurd t
one_each (f ∷ fs) (x ∷ xs) (y ∷ ys) s t = let r = one_each fs xs ys s.1 t.1 in λ i. (s.0.1 ∙ sym t.0.1) i ∷ r i

-- digits have no comma among them
no_comma : (f : List ℕ) → Digits f → All (λ b. comma b ≡ false) f
no_comma f d = All-from_get_or (λ b. comma b ≡ false) f 0 (λ i h. ne_eqb _ 44 (digits_lack f d i h))

-- the fields of a list are what its commas cut
pub said_fields : (body ns : List ℕ) → SaysList body ns → EachSays (slice_split comma body) ns
said_fields body [] s = absurd s
said_fields body (n ∷ []) s = subst (λ fs. EachSays fs (n ∷ [])) (sym (slice_split_none comma body (no_comma body s.0))) (s, tt)
said_fields body (n ∷ m ∷ ns) s =
    let cut = ap (slice_split comma) s.2 ∙ slice_split_at comma s.0 44 s.1 (no_comma s.0 s.3.0) refl in
    subst (λ fs. EachSays fs (n ∷ m ∷ ns)) (sym cut) (s.3, said_fields s.1 (m ∷ ns) s.4)

-- and fields that are joined say the list again
join_says : (fs : List (List ℕ)) (ns : List ℕ) → 0 < length fs → EachSays fs ns → SaysList (join_with_byte 44 fs) ns
join_says [] ns h e = absurd (omega arith)
join_says (f ∷ fs) [] h e = absurd e
join_says (f ∷ []) (n ∷ []) h e = e.0
join_says (f ∷ []) (n ∷ m ∷ ns) h e = absurd e.1
join_says (f ∷ g ∷ fs) (n ∷ []) h e = absurd e.1
join_says (f ∷ g ∷ fs) (n ∷ m ∷ ns) h e = (f, join_with_byte 44 (g ∷ fs), refl, e.0, join_says (g ∷ fs) (m ∷ ns) (omega arith) e.1)

some_field : (body : List ℕ) → 0 < length (slice_split comma body)
some_field body = omega (arith, length-slice_split comma body)

pub fields_say : (body ns : List ℕ) → EachSays (slice_split comma body) ns → SaysList body ns
fields_say body ns e = subst (λ b. SaysList b ns) (join_with_byte-slice_split 44 body) (join_says _ ns (some_field body) e)

-- a body says one list
pub one_list : (body xs ys : List ℕ) → SaysList body xs → SaysList body ys → xs ≡ ys
one_list body xs ys s t = one_each (slice_split comma body) xs ys (said_fields body xs s) (said_fields body ys t)
