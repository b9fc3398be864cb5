-- The form of a word: a sign, then S and U = S T in turn, U at most twice in a row. A word leads a point where its form does.
use Rattle.std.proofs.Common.{◌≡◌, Bool, true, false, not, List, [], ◌∷◌, sym, refl, ap, ◌∙◌}
use Rattle.modular.specs.declared.letter.Letter.{Letter}
use Rattle.modular.specs.declared.letter.Letter.TheVariants.{T, S}
use Rattle.modular.specs.Actions.{Laws, lead}

-- none, U, or U twice
pub data Head : Type 0 where
  none : Head
  once : Head
  twice : Head

-- nothing, a last S, or S, then U once or twice, and a tail
pub data Tail : Type 0 where
  end : Tail
  last : Tail
  su : Tail → Tail
  suu : Tail → Tail

pub record Form : Type 0 where
  pub minus : Bool
  pub head : Head
  pub tail : Tail

abbrev pub made : Bool → Head → Tail → Form
made m h r = record { minus = m; head = h; tail = r }

abbrev pub plain : Form
plain = made false none end

abbrev flip : Form → Form
flip f = made (not f.minus) f.head f.tail

-- S before a form
abbrev put_s : Bool → Head → Tail → Form
put_s m none end = made m none last
put_s m none last = made (not m) none end
put_s m none (su r) = made (not m) once r
put_s m none (suu r) = made (not m) twice r
put_s m once r = made m none (su r)
put_s m twice r = made m none (suu r)

-- U before a form
abbrev put_u : Bool → Head → Tail → Form
put_u m none r = made m once r
put_u m once r = made m twice r
put_u m twice r = made (not m) none r

abbrev before_s : Form → Form
before_s f = put_s f.minus f.head f.tail

abbrev before_u : Form → Form
before_u f = put_u f.minus f.head f.tail

-- T is S three times and U
abbrev pub form : List Letter → Form
form [] = plain
form (T ∷ w) = flip (before_s (before_u (form w)))
form (S ∷ w) = before_s (form w)

-- what a word's way needs of the steps
pub record Moves {R : Type 0} (Point : R → Type 0) (t s : R → R) : Type 0 where
  pub t_point : (p : R) → Point p → Point (t p)
  pub s_point : (p : R) → Point p → Point (s p)
  pub four_s : (p : R) → Point p → s (s (s (s p))) ≡ p
  pub three_st : (p : R) → Point p → t (s (t (s (t (s p))))) ≡ s (s p)

pub moves : {R : Type 0} {Point : R → Type 0} {start : R} {t s : R → R} {agrees : R → R → Bool} → Laws Point start t s agrees → Moves Point t s
moves l = record { t_point = l.t_point; s_point = l.s_point; four_s = l.four_s; three_st = l.three_st }

module _ {R : Type 0} (t s : R → R) where
  abbrev pub turn : Bool → R → R
  turn false p = p
  turn true p = s (s p)

  abbrev pub walk_head : Head → R → R
  walk_head none p = p
  walk_head once p = t (s p)
  walk_head twice p = t (s (t (s p)))

  abbrev pub walk_tail : Tail → R → R
  walk_tail end p = p
  walk_tail last p = s p
  walk_tail (su r) p = walk_tail r (t (s (s p)))
  walk_tail (suu r) p = walk_tail r (t (s (t (s (s p)))))

  -- where a form leads
  abbrev pub walk : Form → R → R
  walk f p = walk_tail f.tail (walk_head f.head (turn f.minus p))

module _ {R : Type 0} {Point : R → Type 0} {t s : R → R} (l : Moves Point t s) where
  u_point : (p : R) → Point p → Point (t (s p))
  u_point p h = l.t_point (s p) (l.s_point p h)

  turn_point : (m : Bool) (p : R) → Point p → Point (turn t s m p)
  turn_point false p h = h
  turn_point true p h = l.s_point (s p) (l.s_point p h)

  -- S twice is U three times, so it commutes with U
  turn_u : (m : Bool) (p : R) → Point p → t (s (turn t s m p)) ≡ turn t s m (t (s p))
  turn_u false p h = refl
  turn_u true p h = ap (λ q. t (s q)) (sym (l.three_st p h)) ∙ l.three_st (t (s p)) (u_point p h)

  turn_s : (m : Bool) (p : R) → s (turn t s m p) ≡ turn t s m (s p)
  turn_s false p = refl
  turn_s true p = refl

  turn_not : (m : Bool) (p : R) → Point p → turn t s (not m) p ≡ s (s (turn t s m p))
  turn_not false p h = refl
  turn_not true p h = sym (l.four_s p h)

  flip_walk : (f : Form) (p : R) → Point p → walk t s (flip f) p ≡ walk t s f (s (s p))
  flip_walk f p h = ap (λ q. walk_tail t s f.tail (walk_head t s f.head q))
      (turn_not f.minus p h ∙ ap s (turn_s f.minus p) ∙ turn_s f.minus (s p))

  put_s_walk : (m : Bool) (h : Head) (r : Tail) (p : R) → Point p → walk t s (put_s m h r) p ≡ walk_tail t s r (walk_head t s h (turn t s m (s p)))
  put_s_walk m none end p k = turn_s m p
  put_s_walk m none last p k = turn_not m p k ∙ ap s (turn_s m p)
  put_s_walk m none (su r) p k = ap (λ q. walk_tail t s r (t (s q))) (turn_not m p k ∙ ap s (turn_s m p))
  put_s_walk m none (suu r) p k = ap (λ q. walk_tail t s r (t (s (t (s q))))) (turn_not m p k ∙ ap s (turn_s m p))
  put_s_walk m once r p k = ap (λ q. walk_tail t s r (t (s q))) (turn_s m p)
  put_s_walk m twice r p k = ap (λ q. walk_tail t s r (t (s (t (s q))))) (turn_s m p)

  put_u_walk : (m : Bool) (h : Head) (r : Tail) (p : R) → Point p → walk t s (put_u m h r) p ≡ walk_tail t s r (walk_head t s h (turn t s m (t (s p))))
  put_u_walk m none r p k = ap (walk_tail t s r) (turn_u m p k)
  put_u_walk m once r p k = ap (λ q. walk_tail t s r (t (s q))) (turn_u m p k)
  put_u_walk m twice r p k = ap (walk_tail t s r)
      (turn_not m p k ∙ sym (l.three_st (turn t s m p) (turn_point m p k)) ∙ ap (λ q. t (s (t (s q)))) (turn_u m p k))

  before_s_walk : (f : Form) (p : R) → Point p → walk t s (before_s f) p ≡ walk t s f (s p)
  before_s_walk f = put_s_walk f.minus f.head f.tail

  before_u_walk : (f : Form) (p : R) → Point p → walk t s (before_u f) p ≡ walk t s f (t (s p))
  before_u_walk f = put_u_walk f.minus f.head f.tail

  -- S three times and U is T
  t_walk : (f : Form) (p : R) → Point p → walk t s (flip (before_s (before_u f))) p ≡ walk t s f (t p)
  t_walk f p h =
      let h1 = l.s_point p h in
      let h2 = l.s_point (s p) h1 in
      let h3 = l.s_point (s (s p)) h2 in
      flip_walk (before_s (before_u f)) p h ∙ before_s_walk (before_u f) (s (s p)) h2 ∙ before_u_walk f (s (s (s p))) h3
      ∙ ap (λ q. walk t s f (t q)) (l.four_s p h)

  -- a word leads a point where its form does
  pub lead_walk : (w : List Letter) (p : R) → Point p → lead t s w p ≡ walk t s (form w) p
  lead_walk [] p h = refl
  lead_walk (T ∷ w) p h = lead_walk w (t p) (l.t_point p h) ∙ sym (t_walk (form w) p h)
  lead_walk (S ∷ w) p h = lead_walk w (s p) (l.s_point p h) ∙ sym (before_s_walk (form w) p h)
