-- Open makes a grown table, and fill keeps it so.
use Rattle.std.proofs.Common.{◌≡◌, ℕ, ◌*◌, ◌/◌, ◌<◌, ◌≤◌, Bool, true, false, ◌&&◌, eqb, ltb, leb, List, length, get_or, take, set, Ok, Err, sym, refl, ap, ◌∙◌, subst, inl, inr, le_refl, arith, length-set, length-take-le, get_or-set_other, get_or-take, get_or-set_same, ltb-false, ltb-true, eq-eqb, eqb-true, leb-true}
use mathlib.Core.Bool.{false≢true}
use lib.Seq.{take-set-le}
use Rattle.std.proofs.lemmas.Bool.{and_parts, and_from}
use Rattle.modular.specs.declared.letter.Letter.TheVariants.{T}
use Rattle.modular.specs.Actions.{Laws}
use Rattle.table.specs.declared.counts.Counts.{Counts}
use Rattle.table.specs.declared.counts.Filled.{Filled}
use Rattle.table.specs.declared.link.Link.{Link}
use Rattle.table.specs.declared.refusal.Refusal.{Refusal}
use Rattle.table.specs.Facts.{Kept, Aimed, Declined}
use Rattle.table.specs.Growing.{Growing, as_lent, edge_left, row_free, lendable, open_by, opened, next_row, next_letter, made, found, agreed, fill_by, filling}
use Rattle.table.specs.Links.{filled, empty, edge, letter_at, aim_at}
use Rattle.table.specs.SoundTest.{named}
use Rattle.table.specs.laws.Edges.{aim_edge}
use Rattle.table.proofs.Codes.{edge_of}
use Rattle.table.proofs.Growth.{Grown, grown_first, fill_old, fill_new}
use Rattle.table.proofs.Outcomes.{refused}
use Rattle.table.proofs.Writes.{parent_named, letter_named, filled_some, aim_linked, aim_unlinked, named_linked}
use Rattle.table.proofs.Writes.{aim_written, aim_unwritten, named_written, named_unwritten, aim_empty, sought_agrees, sought_first}

-- the memory is as at open, and what is held is grown
pub record Good {R : Type 0} (start : R) (t s : R → R) (m : Growing R) : Type 0 where
  pub lent_rows : length m.rows ≡ m.counts.size
  pub lent_links : length m.links ≡ m.counts.size
  pub room : m.counts.held ≤ m.counts.size
  pub small : m.counts.size ≤ 65000
  pub grown : Grown start t s (λ i. get_or m.rows i start) (aim_at m.links) (named m.links) m.counts.held m.counts.filled

module _ {R : Type 0} (start : R) (t s : R → R) where
  pub good_lent : (m : Growing R) → Good start t s m → as_lent m ≡ true
  good_lent m g = and_from (eqb (length m.rows) m.counts.size) (eqb (length m.links) m.counts.size)
      (eq-eqb (length m.rows) m.counts.size g.lent_rows) (eq-eqb (length m.links) m.counts.size g.lent_links)

  open_counts : (b : Bool) (rows : List R) (links : List Link) (c : Counts) → (open_by start b rows links).answer ≡ Ok c → record { size = length rows; held = 1; filled = 0 } ≡ c
  open_counts true rows links c q = cc
  open_counts false rows links c q = refused q

  opens_by : (b : Bool) (rows : List R) (links : List Link) (c : Counts) → lendable (length rows) (length links) ≡ b → (open_by start b rows links).answer ≡ Ok c
      → Good start t s (record { counts = c; rows = (open_by start b rows links).rows; links = (open_by start b rows links).links })
  opens_by true rows links c e q = subst (λ c. Good start t s (record { counts = c; rows = set rows 0 start; links = set links 0 (empty 0 T) })) (open_counts true rows links c q) first
    where
      parts : (0 < length rows) × (length rows ≤ 65000) × (length rows ≡ length links)
      parts =
          let p = and_parts (ltb 0 (length rows) && leb (length rows) 65000) (eqb (length rows) (length links)) e in
          let o = and_parts (ltb 0 (length rows)) (leb (length rows) 65000) p.0 in
          (ltb-true 0 (length rows) o.0, leb-true (length rows) 65000 o.1, eqb-true (length rows) (length links) p.1)

      first : Good start t s (record { counts = record { size = length rows; held = 1; filled = 0 }; rows = set rows 0 start; links = set links 0 (empty 0 T) })
      first = record {
        lent_rows = length-set rows 0 start;
        lent_links = length-set links 0 (empty 0 T) ∙ sym parts.2;
        room = parts.0;
        small = parts.1;
        grown = grown_first start t s (λ i. get_or (set rows 0 start) i start) (aim_at (set links 0 (empty 0 T))) (named (set links 0 (empty 0 T)))
            (get_or-set_same rows 0 start start parts.0)
            (λ e l. aim_written links 0 (empty 0 T) e (omega (arith, parts)) (omega arith) ∙ aim_empty (letter_at e) 0 T)
            (named_written links 0 (empty 0 T) (omega (arith, parts)));
      }
  opens_by false rows links c e q = refused q

  pub open_good : (rows : List R) (links : List Link) (c : Counts) → (opened start rows links).answer ≡ Ok c
      → Good start t s (record { counts = c; rows = (opened start rows links).rows; links = (opened start rows links).links })
  open_good rows links c q = opens_by (lendable (length rows) (length links)) rows links c refl q

  -- one row is held and no edge filled
  pub open_counted : (rows : List R) (links : List Link) (c : Counts) → (opened start rows links).answer ≡ Ok c → (c.held ≡ 1) × (c.filled ≡ 0)
  open_counted rows links c q = let e = open_counts (lendable (length rows) (length links)) rows links c q in (ap (λ c. c.held) (sym e), ap (λ c. c.filled) (sym e))

  pub kept_same : (m : Growing R) → Kept m m
  kept_same m = record { more = le_refl m.counts.held; rows = refl; parents = λ r _. refl; letters = λ r _. refl; edges = λ r k _. refl }

  module _ {Point : R → Type 0} {agrees : R → R → Bool} (l : Laws Point start t s agrees) (m : Growing R) (g : Good start t s m) where
    abbrev h : ℕ
    h = m.counts.held

    abbrev f : ℕ
    f = m.counts.filled

    abbrev p : R
    p = made start t s agrees m

    -- the link of a new row
    abbrev blank : Link
    blank = empty (next_row m) (next_letter m)

    abbrev n : ℕ
    n = found start t s agrees m

    kept_by : (m' : Growing R) → h ≤ m'.counts.held → take h m'.rows ≡ take h m.rows
        → ((i : ℕ) → i < h → named m'.links i ≡ named m.links i) → ((d : ℕ) → d < f → aim_at m'.links d ≡ aim_at m.links d) → Kept m m'
    kept_by m' more rows names aims = record {
      more = more;
      rows = rows;
      parents = λ r k. parent_named m'.links r ∙ ap (λ e. e / 2) (names r k) ∙ sym (parent_named m.links r);
      letters = λ r k. letter_named m'.links r ∙ ap letter_at (names r k) ∙ sym (letter_named m.links r);
      edges = λ r k b. sym (aim_edge m'.links r k) ∙ aims (edge r k) b ∙ aim_edge m.links r k;
    }

    found_same : n < h → get_or m.rows n start ≡ p
    found_same k = sym (get_or-take h m.rows n start k) ∙ l.agree_same
        (get_or (take h m.rows) n start) p
        (sought_agrees agrees (take h m.rows) p start (omega (arith, length-take-le h m.rows (omega (arith, g.room, g.lent_rows)))))

    none_same : h ≤ n → (i : ℕ) → i < h → get_or m.rows i start ≡ p → ⊥
    none_same k i b q = false≢true (
        sym (sought_first agrees (take h m.rows) p start i (omega arith) (omega (arith, length-take-le h m.rows (omega (arith, g.room, g.lent_rows)))))
        ∙ l.same_agree (get_or (take h m.rows) i start) p (get_or-take h m.rows i start b ∙ q))

    -- memory after a fill that finds its record, and after one that makes a new row
    abbrev old : Growing R
    old = (fill_by start t s agrees m true true true true).memory

    abbrev new : Growing R
    new = (fill_by start t s agrees m true true false true).memory

    -- the links once a new row has its own
    abbrev links' : List Link
    links' = set m.links h blank

    inside : f < 2 * h → f / 2 < length m.links
    inside b = omega (arith, g.room, g.lent_links)

    inside' : f < 2 * h → f / 2 < length links'
    inside' b = omega (arith, inside b, length-set m.links h blank)

    named_new : (i : ℕ) → f < 2 * h → i < h → named new.links i ≡ named m.links i
    named_new i b q = named_linked links' f h (inside' b) i ∙ named_unwritten m.links h blank i (λ z. omega arith)

    aim_new : (d : ℕ) → f < 2 * h → (d ≡ f → ⊥) → d < 2 * h → aim_at new.links d ≡ aim_at m.links d
    aim_new d b q c = aim_unlinked links' f h (inside' b) d q ∙ aim_unwritten m.links h blank d (λ z. omega arith)

    old_good : f < 2 * h → n < h → Good start t s old
    old_good b k = record {
      lent_rows = g.lent_rows;
      lent_links = length-set m.links (next_row m) _ ∙ g.lent_links;
      room = g.room;
      small = g.small;
      grown = fill_old start t s g.grown (aim_at old.links) (named old.links) n b k (found_same k) (aim_linked m.links f n (inside b))
          (λ d q _. aim_unlinked m.links f n (inside b) d q) (λ r _. named_linked m.links f n (inside b) r);
    }

    new_good : f < 2 * h → h ≤ n → h < m.counts.size → Good start t s new
    new_good b none free = record {
      lent_rows = length-set m.rows h p ∙ g.lent_rows;
      lent_links = length-set links' (next_row m) _ ∙ length-set m.links h _ ∙ g.lent_links;
      room = omega arith;
      small = g.small;
      grown = fill_new start t s g.grown (λ i. get_or new.rows i start) (aim_at new.links) (named new.links) b (none_same none)
          (λ i q. get_or-set_other m.rows h i p start (λ z. omega arith))
          (get_or-set_same m.rows h p start (omega (arith, g.lent_rows)))
          (aim_linked links' f h (inside' b))
          (λ d q c. aim_new d b q c)
          (λ d q. aim_unlinked links' f h (inside' b) d (λ z. omega arith)
          ∙ aim_written m.links h blank d (omega (arith, g.lent_links)) q ∙ aim_empty (letter_at d) (next_row m) (next_letter m))
          (λ i q. named_new i b q)
          (named_linked links' f h (inside' b) h ∙ named_written m.links h blank (omega (arith, g.lent_links)) ∙ edge_of f);
    }

    old_kept : f < 2 * h → Kept m old
    old_kept b = kept_by old (omega arith) refl (λ r _. named_linked m.links f n (inside b) r) (λ d q. aim_unlinked m.links f n (inside b) d (λ z. omega arith))

    new_kept : f < 2 * h → Kept m new
    new_kept b = kept_by new (omega arith) (take-set-le h m.rows h p (omega arith)) (λ i q. named_new i b q) (λ d q. aim_new d b (λ z. omega arith) (omega arith))

    old_aimed : f < 2 * h → n < h → Aimed m old (record { row = n; new = false })
    old_aimed b k = record {
      leads = ap filled (aim_linked m.links f n (inside b)) ∙ filled_some n (omega (arith, g.room, g.small));
      new = (λ e. absurd (false≢true e), λ e. absurd (omega arith));
    }

    new_aimed : f < 2 * h → Aimed m new (record { row = h; new = true })
    new_aimed b = record {
      leads = ap filled (aim_linked links' f h (inside' b)) ∙ filled_some h (omega (arith, g.room, g.small));
      new = (λ e. le_refl h, λ e. refl);
    }

    fills_by : (lent left old free : Bool) → edge_left m ≡ left → agreed start t s agrees m ≡ old → row_free m ≡ free
        → Good start t s (fill_by start t s agrees m lent left old free).memory × Kept m (fill_by start t s agrees m lent left old free).memory
    fills_by false left old free e o r = (g, kept_same m)
    fills_by true false old free e o r = (g, kept_same m)
    fills_by true true true free e o r = (old_good (ltb-true f (2 * h) e) (ltb-true n h o), old_kept (ltb-true f (2 * h) e))
    fills_by true true false false e o r = (g, kept_same m)
    fills_by true true false true e o r = (new_good (ltb-true f (2 * h) e) (ltb-false n h o) (ltb-true h m.counts.size r), new_kept (ltb-true f (2 * h) e))

    -- a fill, accepted or declined, leaves a grown table, and all that was held
    pub fill_good : Good start t s (filling start t s agrees m).memory × Kept m (filling start t s agrees m).memory
    fill_good = fills_by (as_lent m) (edge_left m) (agreed start t s agrees m) (row_free m) refl refl refl

    answer_by : (lent left old free : Bool) → edge_left m ≡ left → agreed start t s agrees m ≡ old → (a : Filled)
        → (fill_by start t s agrees m lent left old free).answer ≡ Ok a → Aimed m (fill_by start t s agrees m lent left old free).memory a
    answer_by false left old free e o a q = refused q
    answer_by true false old free e o a q = refused q
    answer_by true true true free e o a q = subst (Aimed m old) (cc) (old_aimed (ltb-true f (2 * h) e) (ltb-true n h o))
    answer_by true true false false e o a q = refused q
    answer_by true true false true e o a q = subst (Aimed m new) (cc) (new_aimed (ltb-true f (2 * h) e))

    -- an accepted fill answers the row to which its edge then leads
    pub fill_aimed : (a : Filled) → (filling start t s agrees m).answer ≡ Ok a → Aimed m (filling start t s agrees m).memory a
    fill_aimed a q = answer_by (as_lent m) (edge_left m) (agreed start t s agrees m) (row_free m) refl refl a q

    declined_by : (lent left old free : Bool) → as_lent m ≡ lent → edge_left m ≡ left → agreed start t s agrees m ≡ old → row_free m ≡ free → (x : Refusal)
        → (fill_by start t s agrees m lent left old free).answer ≡ Err x → ((fill_by start t s agrees m lent left old free).memory ≡ m) × Declined start t s m x
    declined_by false left old free d e o r x q = absurd (false≢true (sym d ∙ good_lent m g))
    declined_by true false old free d e o r x q = (refl, inl (cc, omega (arith, ltb-false f (2 * h) e, g.grown.within)))
    declined_by true true true free d e o r x q = refused (sym q)
    declined_by true true false false d e o r x q = (refl, inr (cc, omega (arith, ltb-false h m.counts.size r, g.room), none_same (ltb-false n h o)))
    declined_by true true false true d e o r x q = refused (sym q)

    -- a fill that is declined writes nothing, and tells why
    pub fill_declined : (x : Refusal) → (filling start t s agrees m).answer ≡ Err x → ((filling start t s agrees m).memory ≡ m) × Declined start t s m x
    fill_declined x q = declined_by (as_lent m) (edge_left m) (agreed start t s agrees m) (row_free m) refl refl refl refl x q
