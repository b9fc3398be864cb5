-- Two actions side by side are an action: the proof, which stands here since a ghost member cites it.
use Rattle.std.specs.Prelude.{◌≡◌, Bool, true, false, ◌&&◌, refl}
use Rattle.std.proofs.Common.{ap}
use Rattle.std.proofs.lemmas.Bool.{false≢true}
use Rattle.modular.specs.declared.pair.Both.{Both}
use Rattle.modular.specs.Actions.{Laws}

and_out : (a b : Bool) → (a && b) ≡ true → (a ≡ true) × (b ≡ true)
and_out true b e = (refl, e)
and_out false b e = absurd (false≢true e)

module _ {P Q : Type 0} where
  abbrev pub both : P → Q → Both P Q
  both p q = record { first = p; second = q }

  module _ {F : P → Type 0} {G : Q → Type 0} {start : P} {start' : Q} {t s : P → P} {t' s' : Q → Q} {agrees : P → P → Bool} {agrees' : Q → Q → Bool}
      (k : Laws F start t s agrees) (l : Laws G start' t' s' agrees') where
    pub pair_laws : Laws {R = Both P Q} (λ p. F p.first × G p.second) (both start start')
        (λ p. both (t p.first) (t' p.second)) (λ p. both (s p.first) (s' p.second))
        (λ p q. agrees p.first q.first && agrees' p.second q.second)
    pair_laws = record {
      first_point = (k.first_point, l.first_point);
      t_point = λ p h. (k.t_point p.first h.0, l.t_point p.second h.1);
      s_point = λ p h. (k.s_point p.first h.0, l.s_point p.second h.1);
      four_s = λ p h. λ i. both (k.four_s p.first h.0 i) (l.four_s p.second h.1 i);
      three_st = λ p h. λ i. both (k.three_st p.first h.0 i) (l.three_st p.second h.1 i);
      agree_same = λ p q e.
          let h = and_out (agrees p.first q.first) (agrees' p.second q.second) e in
          λ i. both (k.agree_same p.first q.first h.0 i) (l.agree_same p.second q.second h.1 i);
      same_agree = λ p q e. λ i.
          k.same_agree p.first q.first (ap (λ r. r.first) e) i && l.same_agree p.second q.second (ap (λ r. r.second) e) i;
    }
