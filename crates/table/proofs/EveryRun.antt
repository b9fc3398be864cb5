-- What holds after open and after each call of every run.
use Rattle.std.proofs.Common.{◌≡◌, ℕ, ◌+◌, ◌*◌, ◌<◌, Bool, true, false, eqb, List, [], ◌∷◌, length, take, Ok, Err, Result, sym, refl, ap, ◌∙◌, subst, inl, inr, true≢false, arith, length-take-le, ltb-true, eqb-true}
use Rattle.std.proofs.lemmas.Bool.{cases_Bool, and_parts}
use Rattle.modular.specs.Actions.{Laws}
use Rattle.table.specs.declared.link.Link.{Link}
use Rattle.table.specs.declared.refusal.Refusal.{Refusal}
use Rattle.table.specs.declared.refusal.Refusal.TheVariants.{Memory, Unfilled, Unsound}
use Rattle.table.specs.Facts.{Finished}
use Rattle.table.specs.Growing.{Growing, as_lent, edge_left, row_free, close_by, closing, agreed, fill_by, filling, following, walk}
use Rattle.table.specs.Runs.{
  own,
  other,
  Call,
  fill,
  follow,
  close,
  fills,
  closes,
  Question,
  follow_on,
  Event,
  call,
  Table,
  growing,
  finished,
  started,
  over,
  closed,
  accepted,
  fresh,
  Holds,
  Told,
  answered,
  after,
  Run,
  begun,
  called,
  asked,
  Sure,
  EveryRun,
  EveryRunFromOpen,
  place,
  spell,
  generator,
  width_of,
  shape_of,
}
use Rattle.table.proofs.Asked.{matrix_law, place_told, spell_told, generator_told, width_told}
use Rattle.table.proofs.Cosets.{coset_law}
use Rattle.table.proofs.Filling.{Good, open_good, open_counted, fill_good, fill_aimed, fill_declined}
use Rattle.table.proofs.FinishedLaws.{sound_links_law}
use Rattle.table.proofs.Following.{following_leads, followed_leads, followed_all}
use Rattle.table.proofs.Outcomes.{refused}
use Rattle.table.proofs.Standing.{good_growth, good_finished, none_left, close_is}

module _ {R : Type 0} (start : R) (t s : R → R) (agrees : R → R → Bool) where
  -- each accepted fill counts once, and each new row too
  abbrev Counted : {size : ℕ} → Growing R → List (Event R size) → Type 0
  Counted m es = (m.counts.held ≡ 1 + fresh es) × (m.counts.filled ≡ accepted es)

  fill_counted : {size : ℕ} (m : Growing R) (es : List (Event R size)) → Counted m es → (lent left old free : Bool)
      → Counted (fill_by start t s agrees m lent left old free).memory (call (fill own) (fills (fill_by start t s agrees m lent left old free).answer) ∷ es)
  fill_counted m es c false left old free = c
  fill_counted m es c true false old free = c
  fill_counted m es (p, q) true true true free = (p, omega arith)
  fill_counted m es c true true false false = c
  fill_counted m es (p, q) true true false true = (omega arith, omega arith)

  fill_size : (m : Growing R) (lent left old free : Bool) → (fill_by start t s agrees m lent left old free).memory.counts.size ≡ m.counts.size
  fill_size m false left old free = refl
  fill_size m true false old free = refl
  fill_size m true true true free = refl
  fill_size m true true false false = refl
  fill_size m true true false true = refl

  -- memory of another size is not as lent
  not_as_lent : (m : Growing R) (rows : List R) (links : List Link) → ((length rows ≡ m.counts.size) × (length links ≡ m.counts.size) → ⊥)
      → as_lent (over m rows links) ≡ false
  not_as_lent m rows links no-fit = elim (cases_Bool (as_lent (over m rows links))) [
    | inl e ↦
        let p = and_parts (eqb (length rows) m.counts.size) (eqb (length links) m.counts.size) e in
        absurd (no-fit (eqb-true (length rows) m.counts.size p.0, eqb-true (length links) m.counts.size p.1))
    | inr e ↦ e
  ]

  refused_fill : (m : Growing R) (lent left old free : Bool) → lent ≡ false → fill_by start t s agrees m lent left old free ≡ record { answer = Err Memory; memory = m }
  refused_fill m true left old free e = absurd (true≢false e)
  refused_fill m false left old free e = refl

  refused_close : (lent whole good : Bool) (links : List Link) → lent ≡ false → close_by lent whole good links ≡ Err Memory
  refused_close true whole good links e = absurd (true≢false e)
  refused_close false whole good links e = refl

  module _ (m : Growing R) (rows : List R) (links : List Link) (no-fit : (length rows ≡ m.counts.size) × (length links ≡ m.counts.size) → ⊥) where
    other_fill : filling start t s agrees (over m rows links) ≡ record { answer = Err Memory; memory = over m rows links }
    other_fill = refused_fill (over m rows links) (as_lent (over m rows links)) _ _ _ (not_as_lent m rows links no-fit)

    other_follow : (word : List ℕ) → following (over m rows links) word ≡ Err Memory
    other_follow word = ap (λ b. elim b [ true ↦ walk m.counts.held links word | false ↦ Err Memory ]) (not_as_lent m rows links no-fit)

    other_close : closing (over m rows links) ≡ Err Memory
    other_close = refused_close (as_lent (over m rows links)) _ _ _ (not_as_lent m rows links no-fit)

  -- close gives the held links or says that an edge is not filled
  abbrev Closes : Growing R → Result (List Link) Refusal → Type 0
  Closes m a =
      (a ≡ Err Unsound → ⊥)
      × ((e : Refusal) → a ≡ Err e → (e ≡ Unfilled) × (m.counts.filled < 2 * m.counts.held))
      × ((ks : List Link) → a ≡ Ok ks → ks ≡ take m.counts.held m.links)

  close_sure : (m : Growing R) (b : Bool) → edge_left m ≡ b → Closes m (close_by true b true (take m.counts.held m.links))
  close_sure m false e = (λ q. refused (sym q), λ x q. refused (sym q), λ ks q. cc)
  close_sure m true e = (
    λ q. let z : ◌≡◌ {A = ℕ} 0 1 = cc in omega arith,
    λ x q. (cc, ltb-true m.counts.filled (2 * m.counts.held) e),
    λ ks q. refused q,
  )

  pub question_sure : (rows : List R) (links : List Link) → Finished start t s rows links → (q : Question) → Told start t s rows links q
  question_sure rows links f (follow_on word) = (followed_leads rows links f word, followed_all links f.sound f.small word)
  question_sure rows links f (place x) = place_told start t s rows links f x
  question_sure rows links f (spell r out) = spell_told start t s rows links f r out
  question_sure rows links f (generator k limit) = generator_told start t s rows links f k limit
  question_sure rows links f (width_of r) = width_told start t s rows links f r
  question_sure rows links f shape_of = (sound_links_law links f.sound).cusps

  -- what is kept along a run, from which the rest follows
  abbrev Fine : (size : ℕ) → Table R → List (Event R size) → Type 0
  Fine size (growing m) es = Good start t s m × (m.counts.size ≡ size) × Counted m es
  Fine size (finished rows links) es = Finished start t s rows links × (length links ≡ 1 + fresh es) × (2 * length links ≡ accepted es)

  module _ {Point : R → Type 0} (l : Laws Point start t s agrees) {size : ℕ} where
    close_fine : (m : Growing R) (es : List (Event R size)) → Fine size (growing m) es → (b : Bool) → edge_left m ≡ b
        → let a = close_by true b true (take m.counts.held m.links) in Fine size (closed m a) (call (close own) (closes a) ∷ es)
    close_fine m es (g, n, c) false e =
        let full = none_left m g l e in
        let many = length-take-le m.counts.held m.links (omega (arith, g.room, g.lent_links)) in
        (good_finished m g l full, omega arith, omega arith)
    close_fine m es f true e = f

    call_fine : (m : Growing R) (es : List (Event R size)) → Fine size (growing m) es → (c : Call R size)
        → Fine size (after start t s agrees m c) (call c (answered start t s agrees m c) ∷ es)
    call_fine m es (g, n, c) (fill own) = (
      (fill_good start t s l m g).0,
      fill_size m (as_lent m) (edge_left m) (agreed start t s agrees m) (row_free m) ∙ n,
      fill_counted m es c (as_lent m) (edge_left m) (agreed start t s agrees m) (row_free m),
    )
    call_fine m es (g, n, c) (fill (other rows links no-fit)) =
        subst (λ a. Fine size (growing (over a.memory m.rows m.links)) (call (fill (other rows links no-fit)) (fills a.answer) ∷ es))
        (sym (other_fill m rows links (λ f. no-fit (f.0 ∙ n, f.1 ∙ n)))) (g, n, c)
    call_fine m es f (follow h word) = f
    call_fine m es f (close own) = subst (λ a. Fine size (closed m a) (call (close own) (closes a) ∷ es)) (sym (close_is m f.0 l)) (close_fine m es f (edge_left m) refl)
    call_fine m es (g, n, c) (close (other rows links no-fit)) =
        subst (λ a. Fine size (closed m a) (call (close (other rows links no-fit)) (closes a) ∷ es))
        (sym (other_close m rows links (λ f. no-fit (f.0 ∙ n, f.1 ∙ n)))) (g, n, c)

    run_fine : (first : Growing R) → Fine size (growing first) [] → (x : Table R) (es : List (Event R size)) → Run start t s agrees size first x es → Fine size x es
    run_fine first f x es begun = f
    run_fine first f x es (called {m = m} {es = before} run c) = call_fine m before (run_fine first f (growing m) before run) c
    run_fine first f x es (asked {rows = rows} {links = links} {es = before} run q) = run_fine first f (finished rows links) before run

    fine_holds : (x : Table R) (es : List (Event R size)) → Fine size x es → Holds start t s x es
    fine_holds (growing m) es (g, n, c) = (good_growth m g, c.0, c.1)
    fine_holds (finished rows links) es f = f

    call_sure : (m : Growing R) (es : List (Event R size)) → Fine size (growing m) es → (c : Call R size) → Sure start t s agrees m c
    call_sure m es (g, n, c) (fill own) = ((fill_good start t s l m g).1, fill_aimed start t s l m g, fill_declined start t s l m g)
    call_sure m es (g, n, c) (fill (other rows links no-fit)) = other_fill m rows links (λ f. no-fit (f.0 ∙ n, f.1 ∙ n))
    call_sure m es (g, n, c) (follow own word) = following_leads m (good_growth m g) word
    call_sure m es (g, n, c) (follow (other rows links no-fit) word) = other_follow m rows links (λ f. no-fit (f.0 ∙ n, f.1 ∙ n)) word
    call_sure m es (g, n, c) (close own) = subst (Closes m) (sym (close_is m g l)) (close_sure m (edge_left m) refl)
    call_sure m es (g, n, c) (close (other rows links no-fit)) = other_close m rows links (λ f. no-fit (f.0 ∙ n, f.1 ∙ n))

    every_from : (first : Growing R) → Fine size (growing first) [] → EveryRun start t s agrees size first
    every_from first f = record {
      holds = λ x es run. fine_holds x es (run_fine first f x es run);
      calls = λ m es run. call_sure m es (run_fine first f (growing m) es run);
      matrices = λ rows links es run. matrix_law start t s rows links (run_fine first f (finished rows links) es run).0;
      cosets = λ rows links es run. let h = (run_fine first f (finished rows links) es run).0 in coset_law start t s links h.sound (matrix_law start t s rows links h);
      questions = λ rows links es run. question_sure rows links (run_fine first f (finished rows links) es run).0;
    }

  -- after each open that is accepted
  pub every_run : {Point : R → Type 0} → Laws Point start t s agrees → EveryRunFromOpen start t s agrees
  every_run l rows links c e = every_from l (started start rows links c) (open_good start t s rows links c e, refl, open_counted start t s rows links c e)
