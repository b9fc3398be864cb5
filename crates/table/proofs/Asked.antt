-- Questions to a finished table are answered by what its rows stand for.
use Rattle.std.proofs.Common.{◌≡◌, ℕ, zero, suc, ◌+◌, ◌<◌, Bool, true, false, ltb, leb, List, [], ◌∷◌, ◌++◌, map, length, get_or, drop, ℤ, pos, negsuc, Ok, Err, sym, refl, ap, ◌∙◌, subst, true≢false, arith, ltb-false, ltb-true, eqb-true}
use lib.ListN.{length-map}
use Rattle.std.proofs.lemmas.Bool.{and_parts}
use Rattle.modular.specs.declared.letter.Letter.{Letter}
use Rattle.modular.specs.Matrix.{M2, det, identity}
use Rattle.modular.specs.Words.{matrix}
use Rattle.table.specs.declared.link.Link.{Link}
use Rattle.table.specs.declared.refusal.Refusal.{Refusal}
use Rattle.table.specs.declared.refusal.Refusal.TheVariants.{NoSuch}
use Rattle.table.specs.Acting.{word_of}
use Rattle.table.specs.Facts.{Finished}
use Rattle.table.specs.Finished.{row_of}
use Rattle.table.specs.Generators.{generator_at, other_edges}
use Rattle.table.specs.Matrices.{MatrixLaw}
use Rattle.table.specs.Order.{Least}
use Rattle.table.specs.Placing.{placed}
use Rattle.table.specs.Questions.{within, is_one, place_by, characters, character, spell_by, generate_by, edge_of, measure_by}
use Rattle.table.specs.Runs.{Told, place, spell, generator, width_of}
use Rattle.table.specs.Widths.{IsWidth, width}
use Rattle.table.proofs.SoundRows.{lead_row}
use Rattle.table.proofs.FinishedLaws.{sound_links_law}

-- a test of 1
one_is : (z : ℤ) → is_one z ≡ true → z ≡ pos 1
one_is (pos n) e = ap pos (eqb-true n 1 (and_parts _ _ e).0)
one_is (negsuc n) e = absurd (true≢false (sym (and_parts _ _ e).1))

place_tests : (a b : Bool) (p r : ℕ) → place_by a b p ≡ Ok r → (b ≡ true) × (p ≡ r)
place_tests false b p r e = let w : ◌≡◌ {A = ℕ} 0 1 = cc in absurd (omega arith)
place_tests true false p r e = let w : ◌≡◌ {A = ℕ} 0 1 = cc in absurd (omega arith)
place_tests true true p r e = (refl, (cc))

generate_tests : (a b c : Bool) (x y : M2) → generate_by a b c x ≡ Ok y → (a ≡ true) × (x ≡ y)
generate_tests false b c x y e = let w : ◌≡◌ {A = ℕ} 0 1 = cc in absurd (omega arith)
generate_tests true false c x y e = let w : ◌≡◌ {A = ℕ} 0 1 = cc in absurd (omega arith)
generate_tests true true false x y e = let w : ◌≡◌ {A = ℕ} 0 1 = cc in absurd (omega arith)
generate_tests true true true x y e = (refl, (cc))

spell_tests : (a b : Bool) (w out : List ℕ) (n : ℕ) → (spell_by a b w out).answer ≡ Ok n → (a ≡ true) × (length w ≡ n) × ((spell_by a b w out).out ≡ w ++ drop (length w) out)
spell_tests false b w out n e = let z : ◌≡◌ {A = ℕ} 0 1 = cc in absurd (omega arith)
spell_tests true false w out n e = let z : ◌≡◌ {A = ℕ} 0 1 = cc in absurd (omega arith)
spell_tests true true w out n e = (refl, (cc), refl)

spell_declined : (a b : Bool) (w out : List ℕ) (e : Refusal) → (spell_by a b w out).answer ≡ Err e → (spell_by a b w out).out ≡ out
spell_declined false b w out e d = refl
spell_declined true false w out e d = refl
spell_declined true true w out e d = let z : ◌≡◌ {A = ℕ} 0 1 = cc in absurd (omega arith)

measure_tests : (a : Bool) (x w : ℕ) → measure_by a x ≡ Ok w → (a ≡ true) × (x ≡ w)
measure_tests false x w e = let z : ◌≡◌ {A = ℕ} 0 1 = cc in absurd (omega arith)
measure_tests true x w e = (refl, (cc))

measure_declined : (a : Bool) (x : ℕ) (e : Refusal) → measure_by a x ≡ Err e → (e ≡ NoSuch) × (a ≡ false)
measure_declined false x e d = ((cc), refl)
measure_declined true x e d = let z : ◌≡◌ {A = ℕ} 0 1 = cc in absurd (omega arith)

-- the generator with a number is the matrix of its edge
numbered : (f : ℕ → M2) (xs : List ℕ) (k : ℕ) → k < length xs → get_or (map f xs) k identity ≡ f (get_or xs k 0)
numbered f [] k h = absurd (omega arith)
numbered f (x ∷ xs) zero h = refl
numbered f (x ∷ xs) (suc k) h = numbered f xs k (omega arith)

module _ {R : Type 0} (start : R) (t s : R → R) (rows : List R) (links : List Link) (f : Finished start t s rows links) where
  pub matrix_law : MatrixLaw start t s links
  matrix_law =
      let l = sound_links_law links f.sound in
      record {
        through = l.through;
        members = λ w. (λ m. (l.members w).0 ((f.members (matrix w)).1 m), λ e. (f.members (matrix w)).0 ((l.members w).1 e));
        generated = λ M. (λ m. (l.generated M).0 ((f.members M).1 m), λ p. (f.members M).0 ((l.generated M).1 p));
        as_many = l.count;
      }

  pub place_told : (x : M2) → Told start t s rows links (place x)
  place_told x r e =
      let p = place_tests (within 1000000000 x) (is_one (det x)) (placed links x) r e in
      let d = one_is (det x) p.0 in
      let l = sound_links_law links f.sound in
      (d, λ w m. let a = l.places x d w m ∙ p.1 in let below = subst (λ q. q < length links) a (row_below w) in (a, (f.arrives w r below).0 a))
    where
      row_below : (w : List Letter) → row_of links w < length links
      row_below w = lead_row links f.sound w 0 f.sound.some

  -- the word of a row is the least word of its record
  word_is_least : (r : ℕ) → r < length links → Least start t s (word_of links r) (get_or rows r start)
  word_is_least r h = (f.least (word_of links r) r h).0 ((sound_links_law links f.sound).words r h)

  pub spell_told : (r : ℕ) (out : List ℕ) → Told start t s rows links (spell r out)
  spell_told r out = (
    λ n e.
        let p = spell_tests _ _ (characters (word_of links r)) out n e in
        let h = ltb-true r (length links) p.0 in
        let c = sym (length-map (word_of links r) character) ∙ p.1 in
        (h, word_of links r, word_is_least r h, c, p.2 ∙ ap (λ m. characters (word_of links r) ++ drop m out) p.1),
    λ e d. spell_declined (ltb r (length links)) (leb (length (characters (word_of links r))) (length out)) (characters (word_of links r)) out e d,
  )

  pub generator_told : (k limit : ℕ) → Told start t s rows links (generator k limit)
  generator_told k limit x e =
      let p = generate_tests _ _ _ (generator_at links (edge_of links k)) x e in
      let h = ltb-true k (length links + 1) p.0 in
      let c = (sound_links_law links f.sound).count in
      let m = length-map (other_edges links) (generator_at links) in
      (omega arith, sym p.1 ∙ sym (numbered (generator_at links) (other_edges links) k (omega arith)))

  pub width_told : (r : ℕ) → Told start t s rows links (width_of r)
  width_told r = (
    λ w e. let p = measure_tests _ (width links r) w e in
        let h = ltb-true r (length links) p.0 in
        (h, subst (IsWidth links r) p.1 ((sound_links_law links f.sound).widths r h)),
    λ e d. let p = measure_declined _ (width links r) e d in
        (p.0, ltb-false r (length links) p.1),
  )
