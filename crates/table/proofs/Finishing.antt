-- Once all edges of a grown table are filled, its links are sound, and stepping rows by links is stepping records by the action.
use Rattle.std.proofs.Common.{◌≡◌, ℕ, ◌*◌, ◌/◌, ◌<◌, ◌≤◌, Bool, ◌↔◌, List, [], ◌∷◌, length, get_or, sym, refl, ap, ◌∙◌, subst, arith}
use Rattle.modular.specs.declared.letter.Letter.{Letter}
use Rattle.modular.specs.declared.letter.Letter.TheVariants.{T, S}
use Rattle.modular.specs.Actions.{Laws, lead}
use Rattle.table.specs.declared.link.Link.{Link}
use Rattle.table.specs.Facts.{Finished}
use Rattle.table.specs.Growing.{step}
use Rattle.table.specs.Links.{at, edge, letter_at, aim_at, next}
use Rattle.table.specs.Order.{Least}
use Rattle.table.specs.SoundTest.{named}
use Rattle.table.specs.Soundness.{Sound}
use Rattle.table.specs.laws.Edges.{letter_edge, row_edge, next_edge}
use Rattle.table.proofs.Codes.{place, edge_below}
use Rattle.table.proofs.Growth.{Grown, first_row, same_row}
use Rattle.table.proofs.Listing.{grown_listed, grown_whole}
use Rattle.table.proofs.Writes.{parent_named, letter_named}

module _ {R : Type 0} {Point : R → Type 0} {start : R} {t s : R → R} {agrees : R → R → Bool} (l : Laws Point start t s agrees) where
  place_point : (p : List Letter) → Point (place start t s p)
  place_point [] = l.first_point
  place_point (T ∷ p) = l.t_point (place start t s p) (place_point p)
  place_point (S ∷ p) = l.s_point (place start t s p) (place_point p)

  -- a grown table with all edges filled, and lists of its rows and links
  module _ {row : ℕ → R} {to from : ℕ → ℕ} {h f : ℕ} (g : Grown start t s row to from h f) (full : f ≡ 2 * h) (few : h ≤ 65000)
      (ps : List R) (as_many : length ps ≡ h) (holds : (i : ℕ) (d : R) → i < h → get_or ps i d ≡ row i)
      (links : List Link) (so-many : length links ≡ h) (aims : (e : ℕ) → e < 2 * h → aim_at links e ≡ to e) (names : (r : ℕ) → r < h → named links r ≡ from r) where
    row_point : (r : ℕ) → r < h → Point (row r)
    row_point r k = subst Point (g.led r k) (place_point (g.word r))

    next_to : (x : Letter) (r : ℕ) → r < h → next links x r ≡ to (edge r x)
    next_to x r k = next_edge links x r (omega arith) ∙ aims (edge r x) (edge_below r h x k)

    next_below : (x : Letter) (r : ℕ) → r < h → next links x r < h
    next_below x r k = subst (λ i. i < h) (sym (next_to x r k)) (g.aims (edge r x) (omega (arith, edge_below r h x k))).held

    next_steps : (x : Letter) (r : ℕ) → r < h → row (next links x r) ≡ step t s x (row r)
    next_steps x r k =
        ap row (next_to x r k) ∙ (g.aims (edge r x) (omega (arith, edge_below r h x k))).stepped
        ∙ (λ i. step t s (letter_edge r x i) (row (row_edge r x i)))

    -- a word leads a row to a row, and by the action its record to that one's
    abbrev by_links : List Letter → ℕ → ℕ
    by_links w r = lead (next links T) (next links S) w r

    word_below : (w : List Letter) (r : ℕ) → r < h → by_links w r < h
    word_below [] r k = k
    word_below (T ∷ w) r k = word_below w (next links T r) (next_below T r k)
    word_below (S ∷ w) r k = word_below w (next links S r) (next_below S r k)

    word_steps : (w : List Letter) (r : ℕ) → r < h → row (by_links w r) ≡ lead t s w (row r)
    word_steps [] r k = refl
    word_steps (T ∷ w) r k = word_steps w (next links T r) (next_below T r k) ∙ ap (lead t s w) (next_steps T r k)
    word_steps (S ∷ w) r k = word_steps w (next links S r) (next_below S r k) ∙ ap (lead t s w) (next_steps S r k)

    -- words that lead a row's record to one point lead the row to one row
    words_meet : (u v : List Letter) (r : ℕ) → r < h → lead t s u (row r) ≡ lead t s v (row r) → by_links u r ≡ by_links v r
    words_meet u v r k q = same_row start t s g (by_links u r) (by_links v r) (word_below u r k) (word_below v r k) (word_steps u r k ∙ q ∙ sym (word_steps v r k))

    root_named : named links 0 ≡ 0
    root_named = names 0 g.some ∙ g.origin

    grown_sound : Sound links
    grown_sound = record {
      some = omega (arith, g.some);
      below = λ x r k. subst (λ n. next links x r < n) (sym so-many) (next_below x r (omega arith));
      four_s = λ r k. words_meet (S ∷ S ∷ S ∷ S ∷ []) [] r (omega arith) (l.four_s (row r) (row_point r (omega arith)));
      three_st = λ r k. words_meet (S ∷ T ∷ S ∷ T ∷ S ∷ T ∷ []) (S ∷ S ∷ []) r (omega arith) (l.three_st (row r) (row_point r (omega arith)));
      root_parent = parent_named links 0 ∙ ap (λ e. e / 2) root_named;
      root_letter = letter_named links 0 ∙ ap letter_at root_named;
      from_lower = λ r z k. subst (λ i. i < r) (sym (parent_from r (omega arith))) (g.born r z (omega arith)).lower;
      reached = λ r z k. reached_row r z (omega arith);
      first = λ r z k e b. subst (λ i. i < r) (sym (aims e (omega (arith, edge_below (at links r).parent h (at links r).letter (omega (arith, lower_row r z (omega arith)))))))
          ((g.born r z (omega arith)).before e (subst (λ n. e < n) (names r (omega arith)) b));
    }
      where
        parent_from : (r : ℕ) → r < h → (at links r).parent ≡ from r / 2
        parent_from r k = parent_named links r ∙ ap (λ e. e / 2) (names r k)

        lower_row : (r : ℕ) → 0 < r → r < h → (at links r).parent < r
        lower_row r z k = subst (λ i. i < r) (sym (parent_from r k)) (g.born r z k).lower

        reached_row : (r : ℕ) → 0 < r → r < h → next links (at links r).letter (at links r).parent ≡ r
        reached_row r z k =
            next_to (at links r).letter (at links r).parent (omega (arith, lower_row r z k)) ∙ ap to (names r k) ∙ (g.born r z k).by

    grown_words : (w : List Letter) → row (by_links w 0) ≡ lead t s w start
    grown_words w = word_steps w 0 g.some ∙ ap (lead t s w) (first_row start t s g)

    grown_arrives : (w : List Letter) (r : ℕ) → r < h → (by_links w 0 ≡ r) ↔ (lead t s w start ≡ row r)
    grown_arrives w r k = (
      λ q. sym (grown_words w) ∙ ap row q,
      λ q. same_row start t s g (by_links w 0) r (word_below w 0 g.some) k (grown_words w ∙ q),
    )

    grown_least : (w : List Letter) (r : ℕ) → r < h → Least 0 (next links T) (next links S) w r ↔ Least start t s w (row r)
    grown_least w r k = (
      λ a. record { leads = (grown_arrives w r k).0 a.leads; least = λ v q. a.least v ((grown_arrives v r k).1 q) },
      λ a. record { leads = (grown_arrives w r k).1 a.leads; least = λ v q. a.least v ((grown_arrives v r k).0 q) },
    )

    grown_loops : (w : List Letter) → (by_links w 0 ≡ 0) ↔ (lead t s w start ≡ start)
    grown_loops w = (λ q. (grown_arrives w 0 g.some).0 q ∙ first_row start t s g, λ q. (grown_arrives w 0 g.some).1 (q ∙ sym (first_row start t s g)))

    pub grown_finished : Finished start t s ps links
    grown_finished = record {
      as_many = as_many ∙ sym so-many;
      small = omega arith;
      sound = grown_sound;
      listed = grown_listed g ps as_many holds;
      whole = grown_whole g ps as_many holds full;
      apart = λ i j k m q. g.apart i j k (omega arith) (sym (holds i start (omega arith)) ∙ q ∙ holds j start (omega arith));
      leads = λ x r k. holds (next links x r) start (next_below x r (omega arith)) ∙ next_steps x r (omega arith) ∙ ap (step t s x) (sym (holds r start (omega arith)));
      words = λ w. holds (by_links w 0) start (word_below w 0 g.some) ∙ grown_words w;
      arrives = λ w r k. (
        λ q. (grown_arrives w r (omega arith)).0 q ∙ sym (holds r start (omega arith)),
        λ q. (grown_arrives w r (omega arith)).1 (q ∙ holds r start (omega arith)),
      );
      least = λ w r k. subst (λ p. Least 0 (next links T) (next links S) w r ↔ Least start t s w p) (sym (holds r start (omega arith))) (grown_least w r (omega arith));
      loops = grown_loops;
      members = λ M. (λ m. (m.0, m.1, (grown_loops m.0).0 m.2), λ m. (m.0, m.1, (grown_loops m.0).1 m.2));
    }
