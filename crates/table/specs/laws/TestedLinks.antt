-- Links that pass the test of soundness keep the laws of an action on their row numbers.
use Rattle.std.specs.Prelude.{◌≡◌, ℕ, zero, suc, ◌+◌, ◌*◌, ◌<◌, ◌≤◌, true, ◌&&◌, List, length, ◌==◌, nat_eq, nat_lt}
use Rattle.std.proofs.Common.{sym, subst, inl, inr, arith}
use Rattle.std.proofs.lemmas.Bool.{and_parts, cases_eq, ltb-true, eqb-true, eq-eqb}
use Rattle.modular.specs.declared.letter.Letter.{Letter}
use Rattle.modular.specs.declared.letter.Letter.TheVariants.{T, S}
use Rattle.modular.specs.Actions.{Laws}
use Rattle.table.specs.declared.link.Link.{Link}
use Rattle.table.specs.Acting.{IsRow}
use Rattle.table.specs.Links.{aim_at, edge, next}
use Rattle.table.specs.SoundTest.{named, fits, counted, lawful, fair, swept, sound}
use Rattle.table.specs.laws.Edges.{next_edge}

module _ (links : List Link) where
  -- what the test tells of one row
  record Tested (q : ℕ) : Type 0 where
    lawful : lawful links q ≡ true
    aims : (g : Letter) → aim_at links (edge q g) < length links

  -- an edge that fits leads to a row
  fits_below : (e c : ℕ) → fits links e c ≡ true → aim_at links e < length links
  fits_below e c h = ltb-true (aim_at links e) (length links) (and_parts _ _ h).0

  fair_row : (r c : ℕ) → fair links r c ≡ true → Tested r
  fair_row r c h =
      let p = and_parts _ (fits links (2 * r) c && fits links (2 * r + 1) (counted links (2 * r) c)) h in
      let f = and_parts (fits links (2 * r) c) _ p.1 in
      record { lawful = (and_parts (nat_lt r c) (lawful links r) p.0).1; aims = by (fits_below (2 * r) c f.0) (fits_below (2 * r + 1) _ f.1) }
    where
      by : aim_at links (2 * r) < length links → aim_at links (2 * r + 1) < length links → (g : Letter) → aim_at links (edge r g) < length links
      by t s T = t
      by t s S = s

  -- the test sweeps over all rows
  swept_rows : (k r c : ℕ) → swept links k r c ≡ true → (q : ℕ) → r ≤ q → q < r + k → Tested q
  swept_rows zero r c h q l m = absurd (omega arith)
  swept_rows (suc k) r c h q l m = elim (cases_eq r q) [
    | inl e ↦ subst Tested e (fair_row r c (and_parts (fair links r c) _ h).0)
    | inr n ↦ swept_rows k (r + 1) _ (and_parts (fair links r c) _ h).1 q (omega arith) (omega arith)
  ]

  module _ (h : sound links ≡ true) where
    tested : (q : ℕ) → q < length links → Tested q
    tested q l = swept_rows (length links) 0 1 (and_parts _ (swept links (length links) 0 1) h).1 q (omega arith) (omega arith)

    below : (g : Letter) (q : ℕ) → q < length links → next links g q < length links
    below g q l = subst (λ i. i < length links) (sym (next_edge links g q l)) ((tested q l).aims g)

    pub sound_laws : Laws (IsRow links) 0 (next links T) (next links S) nat_eq
    sound_laws = record {
      first_point = ltb-true 0 (length links) (and_parts _ (named links 0 == 0) (and_parts _ (swept links (length links) 0 1) h).0).0;
      t_point = below T;
      s_point = below S;
      four_s = λ q l. eqb-true _ q (and_parts _ _ (tested q l).lawful).0;
      three_st = λ q l. eqb-true _ (next links S (next links S q)) (and_parts _ _ (tested q l).lawful).1;
      agree_same = λ p q e. eqb-true p q e;
      same_agree = λ p q e. eq-eqb p q e;
    }
