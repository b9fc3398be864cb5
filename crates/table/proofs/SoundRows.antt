-- The rows of sound links, in the order of their words.
use Rattle.std.proofs.Common.{◌≡◌, ℕ, zero, suc, ◌+◌, ◌*◌, ◌/◌, ◌%◌, ◌<◌, ◌≤◌, true, false, eqb, List, [], ◌∷◌, ◌++◌, length, get_or, sym, refl, ap, ◌∙◌, subst, arith, eq-eqb, ne_eqb, eqb-true}
use native.Mathlib.Decide.{dec_lt}
use Rattle.std.specs.List.{range_with_len}
use Rattle.std.proofs.lemmas.List.FromFn.{length-range_with_len, get_or-range_with_len}
use Rattle.modular.specs.declared.letter.Letter.{Letter}
use Rattle.modular.specs.declared.letter.Letter.TheVariants.{T, S}
use Rattle.modular.specs.Actions.{Laws, lead}
use Rattle.modular.proofs.Through.{lead_append}
use Rattle.table.specs.declared.link.Link.{Link}
use Rattle.table.specs.Acting.{IsRow, spelled, word_of}
use Rattle.table.specs.Links.{at, aim_at, edge, next}
use Rattle.table.specs.Order.{Least, Listed, Whole, Among}
use Rattle.table.specs.Soundness.{Sound}
use Rattle.table.specs.laws.Edges.{aim_edge, next_at_row}
use Rattle.table.proofs.Numbered.{bit, bit_small, onto, num, num_snoc, less_num, num_less}

-- an edge's number, letter and row
pub edge_is : (r : ℕ) (g : Letter) → edge r g ≡ 2 * r + bit g
edge_is r T = omega arith
edge_is r S = refl

-- each edge is one of a row's two
pub edge_of : (n e : ℕ) → e < 2 * n → (r : ℕ) × (g : Letter) × (r < n) × (edge r g ≡ e)
edge_of n e h = elim (dec_lt (e % 2) 1) [
  | yes l ↦ (e / 2, T, omega arith, omega arith)
  | no l ↦ (e / 2, S, omega arith, omega arith)
]

pub spelled_zero : (links : List Link) (n : ℕ) → spelled links n 0 ≡ []
spelled_zero links zero = refl
spelled_zero links (suc n) = refl

pub spelled_row : (links : List Link) (n r : ℕ) → 0 < r → spelled links (suc n) r ≡ spelled links n (at links r).parent ++ (at links r).letter ∷ []
spelled_row links n r h =
    let z : r ≡ 0 → ⊥ = λ e. omega arith in
    ap (λ b. elim b [ true ↦ [] | false ↦ spelled links n (at links r).parent ++ (at links r).letter ∷ [] ]) (ne_eqb r 0 z)

-- a number is never 0
num_some : (n : ℕ) (w : List Letter) → 0 < n → 0 < onto n w
num_some n [] h = h
num_some n (g ∷ w) h = num_some (2 * n + bit g) w (omega arith)

module _ (links : List Link) (k : Sound links) where
  -- sound links are a lawful action on their row numbers
  pub links_laws : Laws (IsRow links) 0 (next links T) (next links S) eqb
  links_laws = record {
    first_point = k.some;
    t_point = k.below T;
    s_point = k.below S;
    four_s = k.four_s;
    three_st = k.three_st;
    agree_same = λ p q e. eqb-true p q e;
    same_agree = λ p q e. eq-eqb p q e;
  }

  -- the number of the edge by which a row was first reached
  abbrev pub born : ℕ → ℕ
  born r = edge (at links r).parent (at links r).letter

  pub born_aims : (r : ℕ) → 0 < r → r < length links → aim_at links (born r) ≡ r
  born_aims r h l =
      let p = k.from_lower r h l in
      aim_edge links (at links r).parent (at links r).letter ∙ sym (next_at_row links (at links r).letter (at links r).parent (omega arith)) ∙ k.reached r h l

  -- later rows are reached by later edges
  pub born_rise : (q r : ℕ) → 0 < q → q < r → r < length links → born q < born r
  born_rise q r h l m = elim (dec_lt (born q) (born r)) [
    | yes a ↦ a
    | no a ↦ let e = born_aims r (omega arith) m in elim (dec_lt (born r) (born q)) [
      | yes b ↦ let f = k.first q h (omega arith) (born r) b in absurd (omega arith)
      | no b ↦ let s : born q ≡ born r = omega arith in let f = sym (born_aims q h (omega arith)) ∙ ap (aim_at links) s ∙ e in absurd (omega arith)
    ]
  ]

  -- no edge to a row comes before the one by which it was first reached
  born_first : (r j : ℕ) (g : Letter) → 0 < r → r < length links → j < length links → next links g j ≡ r → born r ≤ edge j g
  born_first r j g h l m e = elim (dec_lt (edge j g) (born r)) [
    | yes b ↦ let f = k.first r h l (edge j g) b in let a = aim_edge links j g ∙ sym (next_at_row links g j m) ∙ e in absurd (omega arith)
    | no b ↦ omega arith
  ]

  -- enough parents give the whole word
  enough : (n m r : ℕ) → r ≤ n → r ≤ m → r < length links → spelled links n r ≡ spelled links m r
  enough zero m r h l i = let z : r ≡ 0 = omega arith in sym (ap (spelled links m) z ∙ spelled_zero links m)
  enough (suc n) zero r h l i = let z : r ≡ 0 = omega arith in ap (spelled links (suc n)) z ∙ spelled_zero links (suc n)
  enough (suc n) (suc m) r h l i = elim (dec_lt 0 r) [
    | yes a ↦
        let p = k.from_lower r a i in
        spelled_row links n r a ∙ ap (λ w. w ++ (at links r).letter ∷ []) (enough n m (at links r).parent (omega arith) (omega arith) (omega arith)) ∙ sym (spelled_row links m r a)
    | no a ↦ let z : r ≡ 0 = omega arith in ap (spelled links (suc n)) z ∙ spelled_zero links (suc n) ∙ sym (spelled_zero links (suc m)) ∙ sym (ap (spelled links (suc m)) z)
  ]

  -- the word of a row is its parent's word and its letter
  pub word_row : (r : ℕ) → 0 < r → r < length links → word_of links r ≡ word_of links (at links r).parent ++ (at links r).letter ∷ []
  word_row zero h l = absurd (omega arith)
  word_row (suc r) h l =
      let p = k.from_lower (suc r) h l in
      spelled_row links r (suc r) h ∙ ap (λ w. w ++ (at links (suc r)).letter ∷ []) (enough r (at links (suc r)).parent (at links (suc r)).parent (omega arith) (omega arith) (omega arith))

  -- the number of the word of a row
  abbrev value : ℕ → ℕ
  value r = num (word_of links r)

  value_some : (r : ℕ) → 0 < value r
  value_some r = num_some 1 (word_of links r) (omega arith)

  value_row : (r : ℕ) → 0 < r → r < length links → value r ≡ 2 * value (at links r).parent + bit (at links r).letter
  value_row r h l = ap num (word_row r h l) ∙ num_snoc (word_of links (at links r).parent) (at links r).letter

  -- words rise with the rows
  value_rise : (n q r : ℕ) → r ≤ n → q < r → r < length links → value q < value r
  value_rise zero q r h l m = absurd (omega arith)
  value_rise (suc n) q r h l m = elim (dec_lt 0 q) [
    | yes a ↦
        let i = (at links q).parent in
        let j = (at links r).parent in
        let f = (at links q).letter in
        let g = (at links r).letter in
        let low = k.from_lower r (omega arith) m in
        let b : 2 * i + bit f < 2 * j + bit g = subst (λ e. e < 2 * j + bit g) (edge_is i f) (subst (λ e. edge i f < e) (edge_is j g) (born_rise q r a l m)) in
        let u = value_row q a (omega arith) in
        let v = value_row r (omega arith) m in
        elim (dec_lt i j) [
          | yes c ↦ let w = value_rise n i j (omega arith) c (omega arith) in omega (arith, bit_small f)
          | no c ↦ let e : i ≡ j = omega (arith, bit_small f, bit_small g) in let w = ap value e in omega arith
        ]
    | no a ↦
        let e : q ≡ 0 = omega arith in
        let z = ap value e in
        let o : value 0 ≡ 1 = refl in
        let u = value_row r (omega arith) m in
        let v = value_some (at links r).parent in
        omega arith
  ]

  -- one letter more leads to a row whose word is at most one letter more
  value_step : (j m : ℕ) (g : Letter) → j < length links → value j ≤ m → value (next links g j) ≤ 2 * m + bit g
  value_step j m g h l = elim (dec_lt 0 (next links g j)) [
    | yes a ↦
        let r = next links g j in
        let i = (at links r).parent in
        let f = (at links r).letter in
        let below = k.below g j h in
        let low = k.from_lower r a below in
        let b : 2 * i + bit f ≤ 2 * j + bit g = subst (λ e. e ≤ 2 * j + bit g) (edge_is i f) (subst (λ e. edge i f ≤ e) (edge_is j g) (born_first r j g a below h refl)) in
        let u = value_row r a below in
        elim (dec_lt i j) [
          | yes c ↦ let w = value_rise j i j (omega arith) c h in omega (arith, bit_small f)
          | no c ↦ let e : i ≡ j = omega (arith, bit_small f, bit_small g) in let w = ap value e in omega arith
        ]
    | no a ↦
        let e : next links g j ≡ 0 = omega arith in
        let z = ap value e in
        let o : value 0 ≡ 1 = refl in
        let v = value_some j in
        omega arith
  ]

  lead_value : (v : List Letter) (j m : ℕ) → j < length links → value j ≤ m → value (lead (next links T) (next links S) v j) ≤ onto m v
  lead_value [] j m h l = l
  lead_value (T ∷ v) j m h l = lead_value v (next links T j) (2 * m + 0) (k.below T j h) (value_step j m T h l)
  lead_value (S ∷ v) j m h l = lead_value v (next links S j) (2 * m + 1) (k.below S j h) (value_step j m S h l)

  -- the word of a row leads there
  word_leads : (n r : ℕ) → r ≤ n → r < length links → lead (next links T) (next links S) (word_of links r) 0 ≡ r
  word_leads zero r h l = let e : r ≡ 0 = omega arith in ap (λ q. lead (next links T) (next links S) (word_of links q) 0) e ∙ sym e
  word_leads (suc n) r h l = elim (dec_lt 0 r) [
    | yes a ↦
        let i = (at links r).parent in
        let low = k.from_lower r a l in
        ap (λ w. lead (next links T) (next links S) w 0) (word_row r a l)
        ∙ lead_append (next links T) (next links S) (word_of links i) ((at links r).letter ∷ []) 0
        ∙ ap (lead (next links T) (next links S) ((at links r).letter ∷ [])) (word_leads n i (omega arith) (omega arith))
        ∙ one_letter (at links r).letter i
        ∙ k.reached r a l
    | no a ↦ let e : r ≡ 0 = omega arith in ap (λ q. lead (next links T) (next links S) (word_of links q) 0) e ∙ sym e
  ]
    where
      one_letter : (g : Letter) (i : ℕ) → lead (next links T) (next links S) (g ∷ []) i ≡ next links g i
      one_letter T i = refl
      one_letter S i = refl

  -- the word of a row is its least word
  pub word_least : (r : ℕ) → r < length links → Least 0 (next links T) (next links S) (word_of links r) r
  word_least r h = record {
    leads = word_leads r r (omega arith) h;
    least = λ v e l. let a = lead_value v 0 1 k.some (omega arith) in let b = less_num v (word_of links r) l in let c = ap value e in omega arith;
  }

  -- words lead to rows
  pub lead_row : (w : List Letter) (r : ℕ) → r < length links → lead (next links T) (next links S) w r < length links
  lead_row [] r h = h
  lead_row (T ∷ w) r h = lead_row w (next links T r) (k.below T r h)
  lead_row (S ∷ w) r h = lead_row w (next links S r) (k.below S r h)

  among : (p : ℕ) → p < length links → Among 0 (next links T) (next links S) (range_with_len 0 (length links)) p
  among p h = let n = length-range_with_len 0 (length links) in (p, omega arith, get_or-range_with_len 0 (length links) p p h ∙ omega arith)

  -- the rows are listed in the order of their least words
  pub rows_listed : Listed 0 (next links T) (next links S) (range_with_len 0 (length links))
  rows_listed =
      let n = length-range_with_len 0 (length links) in
      record {
        word = word_of links;
        of = λ i d h. let l : i < length links = omega arith in let e : i ≡ get_or (range_with_len 0 (length links)) i d = sym (get_or-range_with_len 0 (length links) i d l ∙ omega arith) in
            subst (Least 0 (next links T) (next links S) (word_of links i)) e (word_least i l);
        rise = λ i j h l. num_less (word_of links i) (word_of links j) (value_rise j i j (omega arith) h (omega arith));
        beyond = λ p w l out i h. absurd (out (among p (subst (λ q. q < length links) l.leads (lead_row w 0 k.some))));
      }

  -- and they are all the reachable points
  pub rows_whole : Whole 0 (next links T) (next links S) (range_with_len 0 (length links))
  rows_whole p (w, e) = among p (subst (λ q. q < length links) e (lead_row w 0 k.some))
