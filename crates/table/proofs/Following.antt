-- An accepted follow answers the row to which its word leads.
use Rattle.std.proofs.Common.{◌≡◌, ℕ, ◌+◌, ◌<◌, ◌≤◌, Bool, true, false, eqb, ltb, leb, List, [], ◌∷◌, length, get_or, Some, None, Ok, Err, Option, Result, sym, refl, ap, ◌∙◌, subst, inl, inr, arith, ltb-true, lt-ltb, eqb-true, le-leb}
use Rattle.std.proofs.lemmas.Bool.{cases_lt}
use Rattle.modular.specs.declared.letter.Letter.{Letter}
use Rattle.modular.specs.declared.letter.Letter.TheVariants.{T, S}
use Rattle.modular.specs.Actions.{lead}
use Rattle.modular.specs.Words.{letter_of}
use Rattle.table.specs.declared.link.Link.{Link}
use Rattle.table.specs.declared.refusal.Refusal.{Refusal}
use Rattle.table.specs.declared.refusal.Refusal.TheVariants.{Memory, NotALetter, EmptyEdge, Length}
use Rattle.table.specs.Facts.{Growth, Finished, Led}
use Rattle.table.specs.Questions.{character, characters}
use Rattle.table.specs.Growing.{Growing, as_lent, leads_to, walk_from, walk, followed, following, step}
use Rattle.table.specs.Links.{aim, filled, target_of, at, edge, next}
use Rattle.table.specs.Soundness.{Sound}
use Rattle.table.specs.laws.Edges.{aim_edge, next_edge}
use Rattle.table.proofs.Outcomes.{refused, some_same, none_some}
use Rattle.table.proofs.Writes.{filled_some}

letter_read : (c : ℕ) (g : Letter) → letter_of c ≡ Some g → c ≡ character g
letter_read c g q = by (eqb c 84) (eqb c 83) refl refl q
  where
    by : (a b : Bool) → eqb c 84 ≡ a → eqb c 83 ≡ b → (elim a [ true ↦ Some T | false ↦ elim b [ true ↦ Some S | false ↦ None ] ]) ≡ Some g → c ≡ character g
    by true b e o q = eqb-true c 84 e ∙ ap character (some_same q)
    by false true e o q = eqb-true c 83 o ∙ ap character (some_same q)
    by false false e o q = none_some q

-- an edge that leads somewhere leads to its target, which is below the count
leads_below : (n : ℕ) (g : Letter) (l : Link) (q : ℕ) → leads_to n g l ≡ Some q → (q ≡ aim g l) × (aim g l < n) × (target_of g l ≡ Some q)
leads_below n g l q e = by (ltb (aim g l) n) (eqb (aim g l) 65535) refl e
  where
    by : (a b : Bool) → ltb (aim g l) n ≡ a → (elim a [ true ↦ elim b [ true ↦ None | false ↦ Some (aim g l) ] | false ↦ None ]) ≡ Some q
        → (q ≡ aim g l) × (aim g l < n) × ((elim b [ true ↦ None | false ↦ Some (aim g l) ]) ≡ Some q)
    by true true k e = none_some e
    by true false k e = (sym (some_same e), ltb-true (aim g l) n k, e)
    by false b k e = none_some e

-- rows with records, where an edge that leads somewhere leads to the row whose record its step makes
module _ (n : ℕ) (links : List Link) {R : Type 0} (row : ℕ → R) (t s : R → R)
    (tells : (g : Letter) (r q : ℕ) → r < n → leads_to n g (at links r) ≡ Some q → (q < n) × (row q ≡ step t s g (row r))) where
  -- the characters are a word that leads from row r to row q
  record Walks (word : List ℕ) (r q : ℕ) : Type 0 where
    letters : List Letter
    reads : word ≡ characters letters
    row_is : q < n
    leads : row q ≡ lead t s letters (row r)

  walk_more : (g : Letter) (c : ℕ) (word : List ℕ) (r p q : ℕ) → c ≡ character g → row p ≡ step t s g (row r) → Walks word p q → Walks (c ∷ word) r q
  walk_more T c word r p q e k a = record { letters = T ∷ a.letters; reads = λ i. e i ∷ a.reads i; row_is = a.row_is; leads = a.leads ∙ ap (lead t s a.letters) k }
  walk_more S c word r p q e k a = record { letters = S ∷ a.letters; reads = λ i. e i ∷ a.reads i; row_is = a.row_is; leads = a.leads ∙ ap (lead t s a.letters) k }

  walk_from_leads : (word : List ℕ) (k r q : ℕ) → r < n → walk_from n links word k r ≡ Ok q → Walks word r q
  walk_from_leads [] k r q l e = record { letters = []; reads = refl; row_is = subst (λ i. i < n) same l; leads = ap row (sym same) }
    where
      same : r ≡ q
      same = cc
  walk_from_leads (c ∷ word) k r q l e = by_letter (λ p b. walk_from_leads word (k + 1) p q b) (letter_of c) refl e
    where
      by_edge : ((p : ℕ) → p < n → walk_from n links word (k + 1) p ≡ Ok q → Walks word p q) → (g : Letter) → letter_of c ≡ Some g
          → (o : Option ℕ) → leads_to n g (at links r) ≡ o
          → ◌≡◌ {A = Result ℕ Refusal} (elim o [ None ↦ Err (EmptyEdge k) | Some p ↦ walk_from n links word (k + 1) p ]) (Ok q) → Walks (c ∷ word) r q
      by_edge rest g w None o e = refused e
      by_edge rest g w (Some p) o e = let a = tells g r p l o in walk_more g c word r p q (letter_read c g w) a.1 (rest p a.0 e)

      by_letter : ((p : ℕ) → p < n → walk_from n links word (k + 1) p ≡ Ok q → Walks word p q) → (o : Option Letter) → letter_of c ≡ o
          → ◌≡◌ {A = Result ℕ Refusal} (elim o [
            | None ↦ Err (NotALetter k)
            | Some g ↦ elim (leads_to n g (at links r)) [ None ↦ Err (EmptyEdge k) | Some p ↦ walk_from n links word (k + 1) p ]
          ]) (Ok q)
          → Walks (c ∷ word) r q
      by_letter rest None w e = refused e
      by_letter rest (Some g) w e = by_edge rest g w (leads_to n g (at links r)) refl e

  walk_leads : (word : List ℕ) (q : ℕ) → 0 < n → walk n links word ≡ Ok q → Walks word 0 q
  walk_leads word q z e = by (leb (length word) 1000) e
    where
      by : (b : Bool) → ◌≡◌ {A = Result ℕ Refusal} (elim b [ true ↦ walk_from n links word 0 0 | false ↦ Err Length ]) (Ok q) → Walks word 0 q
      by true e = walk_from_leads word 0 0 q z e
      by false e = refused e

module _ {R : Type 0} {start : R} {t s : R → R} where
  -- an accepted follow on a growing table
  pub following_leads : (m : Growing R) → Growth start t s m → (word : List ℕ) (r : ℕ) → following m word ≡ Ok r
      → Led start t s m.rows m.counts.held word r
  following_leads m a word r e = by (as_lent m) e
    where
      tells : (g : Letter) (i q : ℕ) → i < m.counts.held → leads_to m.counts.held g (at m.links i) ≡ Some q
          → (q < m.counts.held) × (get_or m.rows q start ≡ step t s g (get_or m.rows i start))
      tells g i q k e =
          let below = leads_below m.counts.held g (at m.links i) q e in
          elim (cases_lt (edge i g) m.counts.filled) [
            | inl b ↦
                let (p, is, held, steps) = a.leads i g b in
                let same : p ≡ q = some_same (sym is ∙ below.2) in
                (subst (λ i. i < m.counts.held) same held, ap (λ i. get_or m.rows i start) (sym same) ∙ steps)
            | inr b ↦ none_some (sym (a.unfilled i g k b) ∙ below.2)
          ]

      by : (b : Bool) → ◌≡◌ {A = Result ℕ Refusal} (elim b [ true ↦ walk m.counts.held m.links word | false ↦ Err Memory ]) (Ok r)
          → Led start t s m.rows m.counts.held word r
      by true e =
          let w = walk_leads m.counts.held m.links (λ i. get_or m.rows i start) t s tells word r a.some e in
          record { letters = w.letters; reads = w.reads; row = w.row_is; leads = w.leads ∙ ap (lead t s w.letters) a.first }
      by false e = refused e

  -- and on a finished one
  pub followed_leads : (rows : List R) (links : List Link) → Finished start t s rows links → (word : List ℕ) (r : ℕ) → followed links word ≡ Ok r
      → Led start t s rows (length links) word r
  followed_leads rows links a word r e = record { letters = w.letters; reads = w.reads; row = w.row_is; leads = w.leads ∙ ap (lead t s w.letters) (a.words []) }
    where
      tells : (g : Letter) (i q : ℕ) → i < length links → leads_to (length links) g (at links i) ≡ Some q
          → (q < length links) × (get_or rows q start ≡ step t s g (get_or rows i start))
      tells g i q k e =
          let below = leads_below (length links) g (at links i) q e in
          let same : q ≡ next links g i = below.0 ∙ sym (next_edge links g i k ∙ aim_edge links i g) in
          (subst (λ i. i < length links) (sym below.0) below.1, ap (λ i. get_or rows i start) same ∙ a.leads g i k)

      w : Walks (length links) links (λ i. get_or rows i start) t s tells word 0 r
      w = walk_leads (length links) links (λ i. get_or rows i start) t s tells word r a.sound.some e

-- on a finished table every word of at most 1,000 letters is followed
module _ (links : List Link) (v : Sound links) (small : length links ≤ 65000) where
  leads_next : (g : Letter) (r : ℕ) → r < length links → leads_to (length links) g (at links r) ≡ Some (next links g r)
  leads_next g r l = by (aim g (at links r)) (sym (next_edge links g r l ∙ aim_edge links r g)) (v.below g r l)
    where
      by : (q : ℕ) → q ≡ next links g r → next links g r < length links → (elim (ltb q (length links)) [ true ↦ filled q | false ↦ None ]) ≡ Some (next links g r)
      by q e k = ap (λ b. elim b [ true ↦ filled q | false ↦ None ]) (lt-ltb q (length links) (omega arith)) ∙ filled_some q (omega arith) ∙ ap (λ i. Some i) e

  walk_from_all : (w : List Letter) (k r : ℕ) → r < length links → walk_from (length links) links (characters w) k r ≡ Ok (lead (next links T) (next links S) w r)
  walk_from_all [] k r l = refl
  walk_from_all (T ∷ w) k r l =
      ap (λ o. elim o [ None ↦ Err (EmptyEdge k) | Some p ↦ walk_from (length links) links (characters w) (k + 1) p ]) (leads_next T r l)
      ∙ walk_from_all w (k + 1) (next links T r) (v.below T r l)
  walk_from_all (S ∷ w) k r l =
      ap (λ o. elim o [ None ↦ Err (EmptyEdge k) | Some p ↦ walk_from (length links) links (characters w) (k + 1) p ]) (leads_next S r l)
      ∙ walk_from_all w (k + 1) (next links S r) (v.below S r l)

  pub followed_all : (word : List ℕ) (w : List Letter) → word ≡ characters w → length word ≤ 1000 → followed links word ≡ Ok (lead (next links T) (next links S) w 0)
  followed_all word w q l = ap (λ b. elim b [ true ↦ walk_from (length links) links word 0 0 | false ↦ Err Length ]) (le-leb (length word) 1000 l)
      ∙ ap (λ v. walk_from (length links) links v 0 0) q ∙ walk_from_all w 0 0 v.some
