-- The members of sound links are the products of their generators.
use Rattle.std.proofs.Common.{◌≡◌, ℕ, zero, suc, ◌*◌, ◌/◌, ◌<◌, Bool, true, false, cond, ◌⊎◌, ◌↔◌, List, [], ◌∷◌, ◌++◌, map, length, sym, refl, ap, ◌∙◌, subst, inl, inr, arith, ltb-true, eqb-true}
use native.Mathlib.Decide.{dec_lt}
use Rattle.std.proofs.lemmas.List.{map-append}
use Rattle.std.proofs.lemmas.Bool.{and_parts}
use Rattle.modular.specs.declared.letter.Letter.{Letter}
use Rattle.modular.specs.declared.letter.Letter.TheVariants.{T, S}
use Rattle.modular.specs.Actions.{Member, lead}
use Rattle.modular.specs.Matrix.{M2, identity, inverted, ◌·◌}
use Rattle.modular.specs.Words.{matrix, of_letter}
use Rattle.modular.proofs.Forms.{moves}
use Rattle.modular.proofs.Members.{identity_member, product_member}
use Rattle.modular.proofs.Products.{product_assoc, identity_left, identity_right, matrix_append, matrix_snoc, inverted_undoes}
use Rattle.modular.proofs.Through.{det_word, undo, lead_append, lead_identity}
use Rattle.table.specs.declared.link.Link.{Link}
use Rattle.table.specs.Acting.{word_of}
use Rattle.table.specs.Generators.{word_matrix, is_tree, generator_at, other_below, generators, In, here, there, Product, none, more}
use Rattle.table.specs.Links.{at, aim_at, edge, letter_at, next}
use Rattle.table.specs.Soundness.{Sound}
use Rattle.table.specs.laws.Edges.{letter_edge, row_edge, aim_edge, next_at_row}
use Rattle.table.proofs.SoundRows.{links_laws, word_row, word_least, edge_of}

in_append_left : (x : M2) (xs ys : List M2) → In x xs → In x (xs ++ ys)
in_append_left x [] ys i = elim i [ ]
in_append_left x (y ∷ xs) ys here = here
in_append_left x (y ∷ xs) ys (there i) = there (in_append_left x xs ys i)

in_last : (x : M2) (xs : List M2) → In x (xs ++ x ∷ [])
in_last x [] = here
in_last x (y ∷ xs) = there (in_last x xs)

-- the edge n is kept where it is no tree edge
kept : (t : Bool) (xs : List ℕ) (n : ℕ) → t ≡ false → cond t xs (xs ++ n ∷ []) ≡ xs ++ n ∷ []
kept t xs n e = ap (λ b. cond b xs (xs ++ n ∷ [])) e

-- what is kept of the edges below n stays
stays : (f : ℕ → M2) (t : Bool) (x : M2) (xs : List ℕ) (n : ℕ) → In x (map f xs) → In x (map f (cond t xs (xs ++ n ∷ [])))
stays f true x xs n i = i
stays f false x xs n i = subst (In x) (sym (map-append f xs (n ∷ []))) (in_append_left x (map f xs) (f n ∷ []) i)

other_in : (links : List Link) (n e : ℕ) → e < n → is_tree links e ≡ false → In (generator_at links e) (map (generator_at links) (other_below links n))
other_in links zero e h t = absurd (omega arith)
other_in links (suc n) e h t = elim (dec_lt e n) [
  | yes l ↦ stays (generator_at links) (is_tree links n) (generator_at links e) (other_below links n) n (other_in links n e l t)
  | no l ↦
      let q : e ≡ n = omega arith in
      subst (λ xs. In (generator_at links e) (map (generator_at links) xs)) (sym (kept (is_tree links n) (other_below links n) n (ap (is_tree links) (sym q) ∙ t)))
      (subst (In (generator_at links e)) (sym (map-append (generator_at links) (other_below links n) (n ∷ [])))
      (subst (λ m. In (generator_at links e) (map (generator_at links) (other_below links n) ++ generator_at links m ∷ [])) q (in_last (generator_at links e) (map (generator_at links) (other_below links n)))))
]

in_split : (x : M2) (xs : List M2) (y : M2) → In x (xs ++ y ∷ []) → In x xs ⊎ (x ≡ y)
in_split x [] y here = inr refl
in_split x [] y (there i) = elim i [ ]
in_split x (z ∷ xs) y here = inl here
in_split x (z ∷ xs) y (there i) = elim (in_split x xs y i) [ inl j ↦ inl (there j) | inr e ↦ inr e ]

-- x is the matrix of an edge below n
abbrev Edged : List Link → ℕ → M2 → Type 0
Edged links n x = (e : ℕ) × (e < n) × (x ≡ generator_at links e)

one_edge_more : (links : List Link) (n : ℕ) (x : M2) (t : Bool) → (In x (map (generator_at links) (other_below links n)) → Edged links n x) →
    In x (map (generator_at links) (cond t (other_below links n) (other_below links n ++ n ∷ []))) → Edged links (suc n) x
one_edge_more links n x true h i = let p = h i in (p.0, omega arith, p.2)
one_edge_more links n x false h i =
    elim (in_split x (map (generator_at links) (other_below links n)) (generator_at links n) (subst (In x) (map-append (generator_at links) (other_below links n) (n ∷ [])) i)) [
      | inl l ↦ let p = h l in (p.0, omega arith, p.2)
      | inr e ↦ (n, omega arith, e)
    ]

-- what is kept is the matrix of an edge
in_other : (links : List Link) (n : ℕ) (x : M2) → In x (map (generator_at links) (other_below links n)) → Edged links n x
in_other links zero x i = elim i [ ]
in_other links (suc n) x i = one_edge_more links n x (is_tree links n) (in_other links n x) i

module _ (links : List Link) (k : Sound links) where
  -- W r g is W q after the generator of the edge from r to q
  edge_product : (e : ℕ) → generator_at links e · word_matrix links (aim_at links e) ≡ word_matrix links (e / 2) · of_letter (letter_at e)
  edge_product e =
      let q = word_matrix links (aim_at links e) in
      let x = word_matrix links (e / 2) · of_letter (letter_at e) in
      product_assoc x (inverted q) q ∙ ap (λ y. x · y) (inverted_undoes q (det_word (word_of links (aim_at links e)))).before ∙ identity_right x

  -- a tree edge adds its letter to the word
  tree_product : (r : ℕ) (g : Letter) → r < length links → is_tree links (edge r g) ≡ true → word_matrix links r · of_letter g ≡ word_matrix links (next links g r)
  tree_product r g h t =
      let p = and_parts _ _ t in
      let a = aim_edge links r g ∙ sym (next_at_row links g r h) in
      let q = next links g r in
      let l : 0 < q = subst (λ x. 0 < x) a (ltb-true 0 (aim_at links (edge r g)) p.0) in
      let e : edge (at links q).parent (at links q).letter ≡ edge r g = subst (λ x. edge (at links x).parent (at links x).letter ≡ edge r g) a (eqb-true _ _ p.1) in
      let i : (at links q).parent ≡ r = sym (row_edge (at links q).parent (at links q).letter) ∙ ap (λ x. x / 2) e ∙ row_edge r g in
      let f : (at links q).letter ≡ g = sym (letter_edge (at links q).parent (at links q).letter) ∙ ap letter_at e ∙ letter_edge r g in
      sym (ap matrix (word_row links k q l (k.below g r h)) ∙ matrix_snoc (word_of links (at links q).parent) (at links q).letter ∙ (λ j. word_matrix links (i j) · of_letter (f j)))

  -- any other edge adds its generator in front
  other_product : (r : ℕ) (g : Letter) → r < length links → word_matrix links r · of_letter g ≡ generator_at links (edge r g) · word_matrix links (next links g r)
  other_product r g h =
      let a = aim_edge links r g ∙ sym (next_at_row links g r h) in
      sym (λ j. word_matrix links (row_edge r g j) · of_letter (letter_edge r g j)) ∙ sym (edge_product (edge r g)) ∙ ap (λ q. generator_at links (edge r g) · word_matrix links q) a

  abbrev to : List Letter → ℕ → ℕ
  to v r = lead (next links T) (next links S) v r

  to_cons : (g : Letter) (v : List Letter) (r : ℕ) → to (g ∷ v) r ≡ to v (next links g r)
  to_cons T v r = refl
  to_cons S v r = refl

  -- a product of generators, and then the word of the row at the end, for the word of the row and the letters from there
  abbrev Walked : List Letter → ℕ → Type 0
  Walked v r = (x : M2) × Product (generators links) x × (word_matrix links r · matrix v ≡ x · word_matrix links (to v r))

  one_step : (g : Letter) (v : List Letter) (r : ℕ) (t : Bool) → is_tree links (edge r g) ≡ t → r < length links → Walked v (next links g r) → Walked (g ∷ v) r
  one_step g v r true e h (x, p, q) = (
    x,
    p,
    sym (product_assoc (word_matrix links r) (of_letter g) (matrix v)) ∙ ap (λ y. y · matrix v) (tree_product r g h e) ∙ q
        ∙ ap (λ j. x · word_matrix links j) (sym (to_cons g v r)),
  )
  one_step g v r false e h (x, p, q) =
      let y = generator_at links (edge r g) in
      let b : edge r g < 2 * length links = edge_below r g h in (
        y · x,
        more y x (other_in links (2 * length links) (edge r g) b e) p,
        sym (product_assoc (word_matrix links r) (of_letter g) (matrix v)) ∙ ap (λ z. z · matrix v) (other_product r g h)
            ∙ product_assoc y (word_matrix links (next links g r)) (matrix v) ∙ ap (λ z. y · z) q
            ∙ sym (product_assoc y x (word_matrix links (to v (next links g r)))) ∙ ap (λ j. (y · x) · word_matrix links j) (sym (to_cons g v r)),
      )
    where
      edge_below : (r : ℕ) (g : Letter) → r < length links → edge r g < 2 * length links
      edge_below r T h = omega arith
      edge_below r S h = omega arith

  -- along any word, generators in front take the place of the edges that are no tree edges
  walk : (v : List Letter) (r : ℕ) → r < length links → Walked v r
  walk [] r h = (identity, none, identity_right (word_matrix links r) ∙ sym (identity_left (word_matrix links r)))
  walk (g ∷ v) r h = one_step g v r (is_tree links (edge r g)) refl h (walk v (next links g r) (k.below g r h))

  -- the generator of each edge is a member: out by one word, over the edge, and back by the other
  generator_member : (r : ℕ) (g : Letter) → r < length links → Member 0 (next links T) (next links S) (generator_at links (edge r g))
  generator_member r g h =
      let l = links_laws links k in
      let q = next links g r in
      let below = k.below g r h in
      let u = undo (word_of links q) in
      let out = lead_append (next links T) (next links S) (word_of links r) (g ∷ []) 0 ∙ ap (to (g ∷ [])) (word_least links k r h).leads ∙ to_cons g [] r in
      let back = lead_append (next links T) (next links S) (word_of links q) u.0 0 in
      let home = lead_identity (moves l) (word_of links q ++ u.0) 0 k.some
      (matrix_append (word_of links q) u.0 ∙ ap (λ x. word_matrix links q · x) u.1 ∙ (inverted_undoes (word_matrix links q) (det_word (word_of links q))).after) in
      let a = aim_edge links r g ∙ sym (next_at_row links g r h) in (
        (word_of links r ++ g ∷ []) ++ u.0,
        matrix_append (word_of links r ++ g ∷ []) u.0
            ∙ (λ j. matrix_snoc (word_of links r) g j · u.1 j)
            ∙ sym (λ j. (word_matrix links (row_edge r g j) · of_letter (letter_edge r g j)) · inverted (word_matrix links (a j))),
        lead_append (next links T) (next links S) (word_of links r ++ g ∷ []) u.0 0 ∙ ap (to u.0) out
            ∙ ap (to u.0) (sym (word_least links k q below).leads) ∙ sym back ∙ home,
      )

  product_is_member : (x : M2) → Product (generators links) x → Member 0 (next links T) (next links S) x
  product_is_member x none = identity_member (links_laws links k)
  product_is_member x (more y z i p) =
      let e = in_other links (2 * length links) y i in
      let f = edge_of (length links) e.0 e.1 in
      let m = subst (Member 0 (next links T) (next links S)) (ap (generator_at links) f.3 ∙ sym e.2) (generator_member f.0 f.1 f.2) in
      product_member (links_laws links k) y z m (product_is_member z p)

  -- a matrix is a member exactly when it is a product of the generators
  pub members_generated : (x : M2) → Member 0 (next links T) (next links S) x ↔ Product (generators links) x
  members_generated x = (
    λ m.
        let w = walk m.0 0 k.some in
        let e = sym (identity_left (matrix m.0)) ∙ w.2 ∙ ap (λ r. w.0 · word_matrix links r) m.2 ∙ identity_right w.0 in
        subst (Product (generators links)) (sym e ∙ m.1) w.1,
    product_is_member x,
  )
