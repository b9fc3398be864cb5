-- A text spells one job or has one first fault, and never both.
use Rattle.std.proofs.Common.{◌≡◌, ℕ, List, [], ◌∷◌, ◌++◌, sym, refl, ◌∙◌, subst}
use Rattle.jobs.specs.Bytes.{Keyed}
use Rattle.jobs.specs.Line.{Line, Fails, form, unread, range, refused}
use Rattle.jobs.specs.declared.fault.Fault.{Fault}
use Rattle.jobs.proofs.Cuts.{one_split}

-- the same key in front
cancel : (key u v : List ℕ) → key ++ u ≡ key ++ v → u ≡ v
cancel [] u v e = e
cancel (k ∷ key) u v e = let t : key ++ u ≡ key ++ v = cc in cancel key u v t

-- a text has one first line
pub one_line : (key text b c r q : List ℕ) → Keyed key text b r → Keyed key text c q → (b ≡ c) × (r ≡ q)
one_line key text b c r q h k =
    let s = one_split 10 (key ++ b) (key ++ c) r q h.line k.line (sym h.whole ∙ k.whole) in
    (cancel key b c s.0, s.1)

module _ {X : Type 0} (key : List ℕ) (u : Fault) (Says : List ℕ → X → Type 0) (InRange : X → Type 0) (Refused : X → Fault → Type 0)
    (one-said : (body : List ℕ) (x y : X) → Says body x → Says body y → x ≡ y)
    (one_refusal : (x : X) (n m : Fault) → Refused x n → Refused x m → n ≡ m) where
  -- what is said by two readings of one line
  same_said : (text b c r q : List ℕ) (x y : X) → Keyed key text b r → Keyed key text c q → Says b x → Says c y → x ≡ y
  same_said text b c r q x y h k s t = one-said b x y s (subst (λ l. Says l y) (sym (one_line key text b c r q h k).0) t)

  pub line_same : (text : List ℕ) (x y : X) (r q : List ℕ) → Line key u Says InRange Refused text x r → Line key u Says InRange Refused text y q → (x ≡ y) × (r ≡ q)
  line_same text x y r q l m =
      (same_said text l.body m.body r q x y l.keyed m.keyed l.says m.says, (one_line key text l.body m.body r q l.keyed m.keyed).1)

  -- a line that passes every test has no fault
  pub line_sound : (text : List ℕ) (x : X) (r : List ℕ) (n : Fault) → Line key u Says InRange Refused text x r → Fails key u Says InRange Refused text n → ⊥
  line_sound text x r n l (form f) = f l.body r l.keyed
  line_sound text x r n l (unread b q k f) = f x (subst (λ c. Says c x) (one_line key text l.body b r q l.keyed k).0 l.says)
  line_sound text x r n l (range b q y k s f) = f (subst InRange (same_said text l.body b r q x y l.keyed k l.says s) l.range)
  line_sound text x r n l (refused b q y m k s i f) = l.made m (subst (λ z. Refused z m) (sym (same_said text l.body b r q x y l.keyed k l.says s)) f)

  pub fault_same : (text : List ℕ) (n m : Fault) → Fails key u Says InRange Refused text n → Fails key u Says InRange Refused text m → n ≡ m
  fault_same text n m (form f) (form g) = refl
  fault_same text n m (form f) (unread b q k g) = absurd (f b q k)
  fault_same text n m (form f) (range b q y k s g) = absurd (f b q k)
  fault_same text n m (form f) (refused b q y p k s i g) = absurd (f b q k)
  fault_same text n m (unread b q k g) (form f) = absurd (f b q k)
  fault_same text n m (unread b q k g) (unread c r h f) = refl
  fault_same text n m (unread b q k g) (range c r y h s f) = absurd (g y (subst (λ l. Says l y) (one_line key text c b r q h k).0 s))
  fault_same text n m (unread b q k g) (refused c r y p h s i f) = absurd (g y (subst (λ l. Says l y) (one_line key text c b r q h k).0 s))
  fault_same text n m (range b q y k s g) (form f) = absurd (f b q k)
  fault_same text n m (range b q y k s g) (unread c r h f) = absurd (f y (subst (λ l. Says l y) (one_line key text b c q r k h).0 s))
  fault_same text n m (range b q y k s g) (range c r z h t f) = refl
  fault_same text n m (range b q y k s g) (refused c r z p h t i f) = absurd (g (subst InRange (same_said text c b r q z y h k t s) i))
  fault_same text n m (refused b q y p k s i g) (form f) = absurd (f b q k)
  fault_same text n m (refused b q y p k s i g) (unread c r h f) = absurd (f y (subst (λ l. Says l y) (one_line key text b c q r k h).0 s))
  fault_same text n m (refused b q y p k s i g) (range c r z h t f) = absurd (f (subst InRange (same_said text b c q r y z k h s t) i))
  fault_same text n m (refused b q y p k s i g) (refused c r z o h t j f) =
      one_refusal y p o g (subst (λ w. Refused w o) (sym (same_said text b c q r y z k h s t)) f)
