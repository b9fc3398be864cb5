-- How a table grows, over plain functions: the record of a row, the target of an edge, and the edge by which a row was first reached.
-- A table that is Grown stays so by either kind of fill.
use Rattle.std.proofs.Common.{◌≡◌, ℕ, zero, suc, ◌+◌, ◌*◌, ◌/◌, ◌%◌, ◌<◌, ◌≤◌, true, false, eqb, List, [], ◌∷◌, sym, refl, ap, ◌∙◌, subst, inl, inr, arith, below_more, eq-eqb, ne_eqb}
use native.Mathlib.Decide.{dec_le}
use Rattle.std.proofs.lemmas.Bool.{cases_lt, cases_eq, cases_order}
use Rattle.modular.specs.declared.letter.Letter.{Letter}
use Rattle.table.specs.Growing.{step}
use Rattle.table.specs.Links.{edge, letter_at}
use Rattle.table.specs.laws.Edges.{letter_edge, row_edge}
use Rattle.table.proofs.Codes.{code, place, code_positive, letter_at_bit, edge_bit}
use Rattle.table.proofs.Numbered.{bit, bit_small}

-- a function of numbers with another value at n
module _ {A : Type 0} where
  abbrev put : ℕ → A → (ℕ → A) → ℕ → A
  put n a f i = elim (eqb i n) [ true ↦ a | false ↦ f i ]

  put_same : (n : ℕ) (a : A) (f : ℕ → A) → put n a f n ≡ a
  put_same n a f = ap (λ b. elim b [ true ↦ a | false ↦ f n ]) (eq-eqb n n refl)

  put_other : (n i : ℕ) (a : A) (f : ℕ → A) → (i ≡ n → ⊥) → put n a f i ≡ f i
  put_other n i a f q = ap (λ b. elim b [ true ↦ a | false ↦ f i ]) (ne_eqb i n q)

module _ {R : Type 0} (start : R) (t s : R → R) where
  -- row r, with the word w backwards, was first reached by edge e
  pub record Born (to : ℕ → ℕ) (word : ℕ → List Letter) (f r e : ℕ) (w : List Letter) : Type 0 where
    pub early : e < f
    pub lower : e / 2 < r
    pub by : to e ≡ r
    pub spelled : w ≡ letter_at e ∷ word (e / 2)
    pub before : (d : ℕ) → d < e → to d < r

  -- the target n of edge e, of a row with the record p and the word w, has the record q and the word v
  pub record Aims (h e n : ℕ) (p q : R) (w v : List Letter) : Type 0 where
    pub held : n < h
    pub stepped : q ≡ step t s (letter_at e) p
    pub low : code v ≤ 2 * code w + e % 2

  -- h rows are held, and the edges below f are filled
  pub record Grown (row : ℕ → R) (to from : ℕ → ℕ) (h f : ℕ) : Type 0 where
    pub word : ℕ → List Letter
    pub some : 0 < h
    pub within : f ≤ 2 * h
    pub root : word 0 ≡ []
    pub origin : from 0 ≡ 0
    pub led : (i : ℕ) → i < h → place start t s (word i) ≡ row i
    pub rise : (i j : ℕ) → i < j → j < h → code (word i) < code (word j)
    pub apart : (i j : ℕ) → i < j → j < h → row i ≡ row j → ⊥
    pub born : (r : ℕ) → 0 < r → r < h → Born to word f r (from r) (word r)
    pub aims : (e : ℕ) → e < f → Aims h e (to e) (row (e / 2)) (row (to e)) (word (e / 2)) (word (to e))
    pub unfilled : (e : ℕ) → f ≤ e → e < 2 * h → to e ≡ 65535

  -- one row with the first record, and no edge filled
  pub grown_first : (row : ℕ → R) (to from : ℕ → ℕ) → row 0 ≡ start → ((e : ℕ) → e < 2 → to e ≡ 65535) → from 0 ≡ 0 → Grown row to from 1 0
  grown_first row to from q blank origin = record {
    word = λ i. [];
    some = omega arith;
    within = omega arith;
    root = refl;
    origin = origin;
    led = λ i l. sym q ∙ ap row (omega arith);
    rise = λ i j l m. absurd (omega arith);
    apart = λ i j l m. absurd (omega arith);
    born = λ r z l. absurd (omega arith);
    aims = λ e l. absurd (omega arith);
    unfilled = λ e l m. blank e m;
  }

  module _ {row : ℕ → R} {to from : ℕ → ℕ} {h f : ℕ} (g : Grown row to from h f) where
    pub first_row : row 0 ≡ start
    first_row = sym (g.led 0 g.some) ∙ ap (place start t s) g.root

    -- the words of edges rise with their numbers
    edges_rise : (d e : ℕ) → d < e → e < 2 * h → 2 * code (g.word (d / 2)) + d % 2 < 2 * code (g.word (e / 2)) + e % 2
    edges_rise d e l b = elim (cases_order (d / 2) (e / 2)) [
      | inl q ↦ omega (arith, ap (λ i. code (g.word i)) q)
      | inr (inl k) ↦ omega (arith, g.rise (d / 2) (e / 2) k (omega arith))
      | inr (inr k) ↦ absurd (omega arith)
    ]

    born_code : (r : ℕ) → 0 < r → r < h → code (g.word r) ≡ 2 * code (g.word (from r / 2)) + from r % 2
    born_code r z l = ap code (g.born r z l).spelled ∙ ap (λ b. 2 * code (g.word (from r / 2)) + b) (letter_at_bit (from r))

    -- the word of a held row is below that of each edge that is not filled
    below_unfilled : (i e : ℕ) → i < h → f ≤ e → e < 2 * h → code (g.word i) < 2 * code (g.word (e / 2)) + e % 2
    below_unfilled zero e l k b = omega (arith, ap code g.root, code_positive (g.word (e / 2)))
    below_unfilled (suc i) e l k b = omega (arith, born_code (suc i) (omega arith) l, edges_rise (from (suc i)) e (omega (arith, (g.born (suc i) (omega arith) l).early)) b)

    -- a word below those of all unfilled edges leads to a held row, whose own word is not above it
    abbrev Reached : List Letter → Type 0
    Reached v = (i : ℕ) × (i < h) × (row i ≡ place start t s v) × (code (g.word i) ≤ code v)

    -- so it is for one more letter x, by the edge of x from the row that is reached
    reached_more : (x : Letter) (v : List Letter) → Reached v
        → ((e : ℕ) → f ≤ e → e < 2 * h → 2 * code v + bit x < 2 * code (g.word (e / 2)) + e % 2) → Reached (x ∷ v)
    reached_more x v (j, l, q, c) below = elim (dec_le f (edge j x)) [
      | yes k ↦ absurd (omega (arith, below (edge j x) k (omega (arith, edge_bit j x, bit_small x)), same, odd))
      | no k ↦
          let a = g.aims (edge j x) (omega arith) in
          (to (edge j x), a.held, a.stepped ∙ (λ i. step t s (letter_edge j x i) (row (row_edge j x i))) ∙ ap (step t s x) q, omega (arith, a.low, same, odd))
    ]
      where
        same : code (g.word (edge j x / 2)) ≡ code (g.word j)
        same = ap (λ i. code (g.word i)) (row_edge j x)

        odd : edge j x % 2 ≡ bit x
        odd = omega (arith, edge_bit j x, bit_small x)

    pub reached : (v : List Letter) → ((e : ℕ) → f ≤ e → e < 2 * h → code v < 2 * code (g.word (e / 2)) + e % 2) → Reached v
    reached [] below = (0, g.some, first_row, omega (arith, ap code g.root))
    reached (x ∷ v) below = reached_more x v (reached v (λ e k b. omega (arith, below e k b))) below

    -- so does each word that is not above that of a held row
    pub reached_up_to : (i : ℕ) → i < h → (v : List Letter) → code v ≤ code (g.word i) → Reached v
    reached_up_to i l v c = reached v (λ e k b. omega (arith, below_unfilled i e l k b))

    pub same_row : (i j : ℕ) → i < h → j < h → row i ≡ row j → i ≡ j
    same_row i j l k q = elim (cases_order i j) [ inl e ↦ e | inr (inl d) ↦ absurd (g.apart i j d k q) | inr (inr d) ↦ absurd (g.apart j i d l (sym q)) ]

    -- no word with a smaller code leads to row i
    pub least : (i : ℕ) → i < h → (v : List Letter) → place start t s v ≡ row i → code v < code (g.word i) → ⊥
    least i l v q c =
        let (j, k, p, d) = reached_up_to i l v (omega arith) in
        omega (arith, ap (λ n. code (g.word n)) (same_row j i k l (p ∙ q)))

    -- what a fill leaves of rows and edges, and that its edge f then leads to a row n with the record that its step makes
    record Extends (row' : ℕ → R) (to' : ℕ → ℕ) (word' : ℕ → List Letter) (h' n : ℕ) : Type 0 where
      more : h ≤ h'
      left : f < 2 * h
      rows : (i : ℕ) → i < h → row' i ≡ row i
      words : (i : ℕ) → i < h → word' i ≡ g.word i
      other : (e : ℕ) → (e ≡ f → ⊥) → e < 2 * h → to' e ≡ to e
      new : to' f ≡ n
      aim : Aims h' f n (row (f / 2)) (row' n) (g.word (f / 2)) (word' n)

    module _ {row' : ℕ → R} {to' : ℕ → ℕ} {word' : ℕ → List Letter} {h' n : ℕ} (k : Extends row' to' word' h' n) where
      still_born : (r e : ℕ) → r < h → Born to g.word f r e (g.word r) → Born to' word' (f + 1) r e (word' r)
      still_born r e l a = record {
        early = omega arith;
        lower = a.lower;
        by = k.other e (λ q. omega arith) (omega (arith, k.left, a.early)) ∙ a.by;
        spelled = k.words r l ∙ a.spelled ∙ ap (λ w. letter_at e ∷ w) (sym (k.words (e / 2) (omega (arith, a.lower))));
        before = λ d b. subst (λ n. n < r) (sym (k.other d (λ q. omega arith) (omega (arith, k.left, a.early)))) (a.before d b);
      }

      -- facts of an edge at the values of the rows and words after the fill
      aims_at : {i e n m : ℕ} → i < h → m ≡ n → Aims h' e n (row i) (row' n) (g.word i) (word' n) → Aims h' e m (row' i) (row' m) (word' i) (word' m)
      aims_at {i} {e} {n} {m} l q a = record {
        held = subst (λ n. n < h') (sym q) a.held;
        stepped = ap row' q ∙ a.stepped ∙ ap (step t s (letter_at e)) (sym (k.rows i l));
        low = omega (arith, a.low, ap (λ n. code (word' n)) q, ap code (k.words i l));
      }

      still_aims : (e : ℕ) → e < f + 1 → Aims h' e (to' e) (row' (e / 2)) (row' (to' e)) (word' (e / 2)) (word' (to' e))
      still_aims e l = elim (cases_eq e f) [
        | inl q ↦ subst (λ e. Aims h' e (to' e) (row' (e / 2)) (row' (to' e)) (word' (e / 2)) (word' (to' e))) (sym q) (aims_at (omega (arith, k.left)) k.new k.aim)
        | inr q ↦
            let a = g.aims e (omega arith) in
            aims_at (omega (arith, k.left)) (k.other e q (omega (arith, k.left))) (record {
              held = omega (arith, a.held, k.more);
              stepped = k.rows (to e) a.held ∙ a.stepped;
              low = omega (arith, a.low, ap code (k.words (to e) a.held));
            })
      ]

    -- a fill that finds its record in row n
    pub fill_old : (to' from' : ℕ → ℕ) (n : ℕ) → f < 2 * h → n < h → row n ≡ step t s (letter_at f) (row (f / 2))
        → to' f ≡ n → ((e : ℕ) → (e ≡ f → ⊥) → e < 2 * h → to' e ≡ to e) → ((r : ℕ) → r < h → from' r ≡ from r) → Grown row to' from' h (f + 1)
    fill_old to' from' n b l q new same fs = record {
      word = g.word;
      some = g.some;
      within = omega arith;
      root = g.root;
      origin = fs 0 g.some ∙ g.origin;
      led = g.led;
      rise = g.rise;
      apart = g.apart;
      born = λ r z k. still_born extends r (from' r) k (subst (λ e. Born to g.word f r e (g.word r)) (sym (fs r k)) (g.born r z k));
      aims = still_aims extends;
      unfilled = λ e k d. same e (λ q. omega arith) d ∙ g.unfilled e (omega arith) d;
    }
      where
        extends : Extends row to' g.word h n
        extends = record {
          more = omega arith;
          left = b;
          rows = λ i k. refl;
          words = λ i k. refl;
          other = same;
          new = new;
          aim = record { held = l; stepped = q; low = omega (arith, below_unfilled n f l (omega arith) b) };
        }

    -- a fill that puts its record into the next row
    pub fill_new : (row' : ℕ → R) (to' from' : ℕ → ℕ) → f < 2 * h → ((i : ℕ) → i < h → row i ≡ step t s (letter_at f) (row (f / 2)) → ⊥)
        → ((i : ℕ) → i < h → row' i ≡ row i) → row' h ≡ step t s (letter_at f) (row (f / 2))
        → to' f ≡ h → ((e : ℕ) → (e ≡ f → ⊥) → e < 2 * h → to' e ≡ to e) → ((e : ℕ) → e / 2 ≡ h → to' e ≡ 65535)
        → ((r : ℕ) → r < h → from' r ≡ from r) → from' h ≡ f → Grown row' to' from' (h + 1) (f + 1)
    fill_new row' to' from' b none rows made new same blank fs fh = record {
      word = word';
      some = omega arith;
      within = omega arith;
      root = words 0 g.some ∙ g.root;
      origin = fs 0 g.some ∙ g.origin;
      led = below_more (λ i. place start t s (word' i) ≡ row' i) h
          (λ i l. ap (place start t s) (words i l) ∙ g.led i l ∙ sym (rows i l))
          (ap (place start t s) word_h ∙ ap (step t s (letter_at f)) (g.led (f / 2) (omega arith)) ∙ sym made);
      rise = λ i j l m. below_more (λ j. (i : ℕ) → i < j → code (word' i) < code (word' j)) h
          (λ j m i l. omega (arith, g.rise i j l m, ap code (words i (omega arith)), ap code (words j m)))
          (λ i l. omega (arith, below_unfilled i f l (omega arith) b, ap code (words i l), ap code word_h, letter_at_bit f)) j m i l;
      apart = λ i j l m. below_more (λ j. (i : ℕ) → i < j → row' i ≡ row' j → ⊥) h
          (λ j m i l q. g.apart i j l m (sym (rows i (omega arith)) ∙ q ∙ rows j m))
          (λ i l q. none i l (sym (rows i l) ∙ q ∙ made)) j m i l;
      born = λ r z m. below_more (λ r. 0 < r → Born to' word' (f + 1) r (from' r) (word' r)) h
          (λ r l z. still_born extends r (from' r) l (subst (λ e. Born to g.word f r e (g.word r)) (sym (fs r l)) (g.born r z l)))
          (λ z. subst (λ e. Born to' word' (f + 1) h e (word' h)) (sym fh) born_h) r m z;
      aims = still_aims extends;
      unfilled = λ e l m. elim (cases_lt e (2 * h)) [
        | inl k ↦ same e (λ q. omega arith) k ∙ g.unfilled e (omega arith) k
        | inr k ↦ blank e (omega arith)
      ];
    }
      where
        word' : ℕ → List Letter
        word' i = put h (letter_at f ∷ g.word (f / 2)) g.word i

        words : (i : ℕ) → i < h → word' i ≡ g.word i
        words i l = put_other h i (letter_at f ∷ g.word (f / 2)) g.word (λ q. omega arith)

        word_h : word' h ≡ letter_at f ∷ g.word (f / 2)
        word_h = put_same h (letter_at f ∷ g.word (f / 2)) g.word

        extends : Extends row' to' word' (h + 1) h
        extends = record {
          more = omega arith;
          left = b;
          rows = rows;
          words = words;
          other = same;
          new = new;
          aim = record { held = omega arith; stepped = made; low = omega (arith, ap code word_h, letter_at_bit f) };
        }

        born_h : Born to' word' (f + 1) h f (word' h)
        born_h = record {
          early = omega arith;
          lower = omega arith;
          by = new;
          spelled = word_h ∙ ap (λ w. letter_at f ∷ w) (sym (words (f / 2) (omega arith)));
          before = λ d l. subst (λ n. n < h) (sym (same d (λ q. omega arith) (omega arith))) (g.aims d l).held;
        }
