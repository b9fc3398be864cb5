-- The inverses of both letters keep the laws of an action: the proof, which stands here since a ghost member cites it.
use Rattle.std.specs.Prelude.{◌≡◌, Bool}
use Rattle.std.proofs.Common.{sym, ap, ◌∙◌}
use Rattle.modular.specs.Actions.{Laws, lead}
use Rattle.modular.specs.Inverses.{back_t, back_s}

module _ {R : Type 0} {Point : R → Type 0} {start : R} {t s : R → R} {agrees : R → R → Bool} (l : Laws Point start t s agrees) where
  abbrev u : R → R
  u p = t (s p)

  s_twice : (p : R) → Point p → Point (s (s p))
  s_twice p h = l.s_point (s p) (l.s_point p h)

  u_point : (p : R) → Point p → Point (u p)
  u_point p h = l.t_point (s p) (l.s_point p h)

  -- U = S T is of order 6
  six_u : (p : R) → Point p → u (u (u (u (u (u p))))) ≡ p
  six_u p h = l.three_st (u (u (u p))) (u_point (u (u p)) (u_point (u p) (u_point p h))) ∙ ap (λ q. s (s q)) (l.three_st p h) ∙ l.four_s p h

  abbrev back_turn : R → R
  back_turn p = lead t s back_t (lead t s back_s p)

  abbrev turn : R → R
  turn p = s (u (u (s p)))

  -- the inverse of S and then that of T is S U U S
  turn_is : (p : R) → Point p → back_turn p ≡ turn p
  turn_is p h = ap (λ q. s (t (s (t q)))) (l.four_s (s (s p)) (s_twice p h))

  turn_point : (p : R) → Point p → Point (turn p)
  turn_point p h = l.s_point (u (u (s p))) (u_point (u (s p)) (u_point (s p) (l.s_point p h)))

  turn_twice : (p : R) → Point p → turn (turn p) ≡ s (u (s p))
  turn_twice p h =
      let k = u_point (s p) (l.s_point p h) in
      ap (λ q. s (u (u q))) (sym (l.three_st (u (u (s p))) (u_point (u (s p)) k))) ∙ ap s (six_u (u (s p)) k)

  turn_thrice : (p : R) → Point p → turn (turn (turn p)) ≡ s (s p)
  turn_thrice p h =
      let k = l.s_point p h in
      ap turn (turn_twice p h) ∙ ap (λ q. s (u (u q))) (sym (l.three_st (u (s p)) (u_point (s p) k))) ∙ ap s (six_u (s p) k)

  back_s_point : (p : R) → Point p → Point (lead t s back_s p)
  back_s_point p h = l.s_point (s (s p)) (s_twice p h)

  back_t_point : (p : R) → Point p → Point (lead t s back_t p)
  back_t_point p h =
      let k = u_point (s (s p)) (s_twice p h) in
      l.s_point (u (u (s (s p)))) (u_point (u (s (s p))) k)

  pub mirror_laws : Laws Point start (lead t s back_t) (lead t s back_s) agrees
  mirror_laws = record {
    first_point = l.first_point;
    t_point = back_t_point;
    s_point = back_s_point;
    four_s = λ p h. let e = l.four_s p h in ap (λ q. s (s (s (s (s (s (s (s q)))))))) e ∙ ap (λ q. s (s (s (s q)))) e ∙ e;
    three_st = λ p h.
        ap (λ q. back_turn (back_turn q)) (turn_is p h) ∙ ap back_turn (turn_is (turn p) (turn_point p h))
        ∙ turn_is (turn (turn p)) (turn_point (turn p) (turn_point p h)) ∙ turn_thrice p h ∙ sym (l.four_s (s (s p)) (s_twice p h));
    agree_same = l.agree_same;
    same_agree = l.same_agree;
  }
