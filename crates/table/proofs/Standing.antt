-- What holds of a table, told by the action, follows from that it is grown; and close accepts it once all edges are filled.
use Rattle.std.proofs.Common.{◌≡◌, ℕ, ◌*◌, ◌/◌, ◌<◌, Bool, true, false, length, get_or, take, sym, refl, ap, ◌∙◌, subst, arith, length-take-le, get_or-take, ltb-false}
use Rattle.std.proofs.lemmas.List.{get_or_default}
use Rattle.modular.specs.declared.letter.Letter.{Letter}
use Rattle.modular.specs.declared.letter.Letter.TheVariants.{T}
use Rattle.modular.specs.Actions.{Laws}
use Rattle.table.specs.Facts.{Growth, Finished, Steps}
use Rattle.table.specs.Growing.{Growing, edge_left, close_by, closing, step}
use Rattle.table.specs.Links.{aim, filled, empty, at, edge, letter_at}
use Rattle.table.specs.SoundTest.{sound}
use Rattle.table.specs.laws.Edges.{letter_edge, row_edge, aim_edge}
use Rattle.table.proofs.Codes.{edge_below}
use Rattle.table.proofs.Filling.{Good, good_lent}
use Rattle.table.proofs.Finishing.{grown_finished}
use Rattle.table.proofs.Growth.{first_row}
use Rattle.table.proofs.Listing.{grown_listed}
use Rattle.table.proofs.SoundTested.{sound_tells}
use Rattle.table.proofs.Writes.{filled_some}

module _ {R : Type 0} {start : R} {t s : R → R} (m : Growing R) (g : Good start t s m) where
  abbrev h : ℕ
  h = m.counts.held

  held_rows : length (take h m.rows) ≡ h
  held_rows = length-take-le h m.rows (omega (arith, g.room, g.lent_rows))

  held_row : (i : ℕ) (d : R) → i < h → get_or (take h m.rows) i d ≡ get_or m.rows i start
  held_row i d k = get_or-take h m.rows i d k ∙ get_or_default m.rows i d start (omega (arith, g.room, g.lent_rows))

  edge_leads : (r : ℕ) (x : Letter) → edge r x < m.counts.filled → (aim x (at m.links r) < h) × Steps start t s m.rows x r (aim x (at m.links r))
  edge_leads r x k =
      let a = g.grown.aims (edge r x) k in (
        subst (λ q. q < h) (aim_edge m.links r x) a.held,
        ap (λ q. get_or m.rows q start) (sym (aim_edge m.links r x)) ∙ a.stepped
            ∙ (λ i. step t s (letter_edge r x i) (get_or m.rows (row_edge r x i) start)),
      )

  pub good_growth : Growth start t s m
  good_growth = record {
    some = g.grown.some;
    room = g.room;
    within = g.grown.within;
    first = first_row start t s g.grown;
    listed = grown_listed g.grown (take h m.rows) held_rows held_row;
    apart = g.grown.apart;
    leads = λ r x k. let a = edge_leads r x k in (aim x (at m.links r), filled_some (aim x (at m.links r)) (omega (arith, a.0, g.room, g.small)), a.0, a.1);
    unfilled = λ r x k b. ap filled (sym (aim_edge m.links r x) ∙ g.grown.unfilled (edge r x) b (edge_below r h x k));
  }

  module _ {Point : R → Type 0} {agrees : R → R → Bool} (l : Laws Point start t s agrees) where
    -- once all edges are filled, what is held makes a finished table
    pub good_finished : m.counts.filled ≡ 2 * h → Finished start t s (take h m.rows) (take h m.links)
    good_finished full = grown_finished l g.grown full (omega (arith, g.room, g.small)) (take h m.rows) held_rows held_row (take h m.links) held_links
        (λ e k. ap (aim (letter_at e)) (get_or-take h m.links (e / 2) (empty 0 T) (omega arith)))
        (λ r k. ap (λ v. edge v.parent v.letter) (get_or-take h m.links r (empty 0 T) k))
      where
        held_links : length (take h m.links) ≡ h
        held_links = length-take-le h m.links (omega (arith, g.room, g.lent_links))

    pub none_left : edge_left m ≡ false → m.counts.filled ≡ 2 * h
    none_left e = omega (arith, ltb-false m.counts.filled (2 * h) e, g.grown.within)

    closes_by : (b : Bool) → edge_left m ≡ b → closing m ≡ close_by true b true (take h m.links)
    closes_by false e i = close_by (good_lent start t s m g i) (e i) ((sound_tells (take h m.links)).1 (good_finished (none_left e)).sound i) (take h m.links)
    closes_by true e i = close_by (good_lent start t s m g i) (e i) (sound (take h m.links)) (take h m.links)

    -- close finds no fault with a grown table: it declines with 10, or gives the held links
    pub close_is : closing m ≡ close_by true (edge_left m) true (take h m.links)
    close_is = closes_by (edge_left m) refl
