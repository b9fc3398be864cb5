-- A ring normaliser: an identity of polynomials over ℤ is proved by one line that computes.
-- `solve 2 (λ x y. (x ⊕ y) ⊗ (x ⊝ y) ≐ x ⊗ x ⊝ y ⊗ y) tt` proves (x y : ℤ) → (x +ℤ y) *ℤ (x -ℤ y) ≡ x *ℤ x -ℤ y *ℤ y; Shows.antt has more.
use Rattle.std.proofs.Common.{◌≡◌, ℕ, zero, suc, Bool, true, false, ◌&&◌, T, eqb, leb, List, [], ◌∷◌, get_or, ℤ, pos, negsuc, ◌+ℤ◌, ◌*ℤ◌, neg_ℤ, sym, refl, ap, ◌∙◌, subst, arith, eqb→eq}
use lib.IntN.{*ℤ_comm, +ℤ_assoc}
use borrow.Author.Differences.{sum_is_lem, neg_is, same_in, same_out}
use Rattle.numbers.proofs.Integers.{mul_add, add_mul, mul_assoc, neg_mul, one_mul, mul_one, zero_mul, mul_zero}

infix 4 ◌≐◌
infixl 6 ◌⊕◌
infixl 6 ◌⊝◌
infixl 7 ◌⊗◌
infix 8 ⊖◌
pub data Expr : Type 0 where
  var : ℕ → Expr
  con : ℤ → Expr
  ◌⊕◌ : Expr → Expr → Expr
  ◌⊗◌ : Expr → Expr → Expr
  ⊖◌ : Expr → Expr

abbrev pub ◌⊝◌ : Expr → Expr → Expr
e ⊝ f = e ⊕ (⊖ f)

-- the integer that an expression stands for, where the variable i stands for ρ i
abbrev pub value : (ℕ → ℤ) → Expr → ℤ
value ρ (var i) = ρ i
value ρ (con z) = z
value ρ (e ⊕ f) = value ρ e +ℤ value ρ f
value ρ (e ⊗ f) = value ρ e *ℤ value ρ f
value ρ (⊖ e) = neg_ℤ (value ρ e)

-- a sum of terms, each a coefficient and a sorted list of variables
pub data Poly : Type 0 where
  none : Poly
  term : ℤ → List ℕ → Poly → Poly

-- a variable more in a sorted list
abbrev pub put : ℕ → List ℕ → List ℕ
put i [] = i ∷ []
put i (j ∷ m) = elim (leb i j) [ true ↦ i ∷ (j ∷ m) | false ↦ j ∷ put i m ]

-- the product of two monomials
abbrev pub join : List ℕ → List ℕ → List ℕ
join [] m = m
join (i ∷ l) m = put i (join l m)

abbrev pub equal : List ℕ → List ℕ → Bool
equal [] [] = true
equal [] (j ∷ m) = false
equal (i ∷ l) [] = false
equal (i ∷ l) (j ∷ m) = eqb i j && equal l m

-- a term more in a sum
abbrev pub add : ℤ → List ℕ → Poly → Poly
add c l none = term c l none
add c l (term d m p) = elim (equal l m) [ true ↦ term (c +ℤ d) m p | false ↦ term d m (add c l p) ]

-- r + c · l · q
abbrev pub gather : ℤ → List ℕ → Poly → Poly → Poly
gather c l none r = r
gather c l (term d m q) r = gather c l q (add (c *ℤ d) (join l m) r)

abbrev pub times : Poly → Poly → Poly
times none q = none
times (term c l p) q = gather c l q (times p q)

abbrev pub normal : Expr → Poly
normal (var i) = term (pos 1) (i ∷ []) none
normal (con z) = term z [] none
normal (e ⊕ f) = gather (pos 1) [] (normal e) (normal f)
normal (e ⊗ f) = times (normal e) (normal f)
normal (⊖ e) = gather (negsuc 0) [] (normal e) none

abbrev pub is_zero : ℤ → Bool
is_zero (pos n) = eqb n 0
is_zero (negsuc n) = false

-- every coefficient is zero
abbrev pub vanishes : Poly → Bool
vanishes none = true
vanishes (term c l p) = is_zero c && vanishes p

both : (a b : Bool) → T (a && b) → T a × T b
both true true t = (tt, tt)
both true false t = absurd t
both false true t = absurd t
both false false t = absurd t

equal→eq : (l m : List ℕ) → T (equal l m) → l ≡ m
equal→eq [] [] t = refl
equal→eq [] (j ∷ m) t = absurd t
equal→eq (i ∷ l) [] t = absurd t
equal→eq (i ∷ l) (j ∷ m) t =
    let b = both (eqb i j) (equal l m) t in
    cc (eqb→eq i j b.0, equal→eq l m b.1)

is_zero→eq : (c : ℤ) → T (is_zero c) → c ≡ pos 0
is_zero→eq (pos n) t = ap pos (eqb→eq n 0 t)
is_zero→eq (negsuc n) t = absurd t

swap : (a b c : ℤ) → a *ℤ (b *ℤ c) ≡ b *ℤ (a *ℤ c)
swap a b c = sym (mul_assoc a b c) ∙ ap (λ x. x *ℤ c) (*ℤ_comm a b) ∙ mul_assoc b a c

cross : (a b c d : ℤ) → a *ℤ b *ℤ (c *ℤ d) ≡ a *ℤ c *ℤ (b *ℤ d)
cross a b c d = mul_assoc a b (c *ℤ d) ∙ ap (λ x. a *ℤ x) (swap b c d) ∙ sym (mul_assoc a c (b *ℤ d))

ruleset linear = (arith, same_in, same_out, sum_is_lem, neg_is)

module _ (ρ : ℕ → ℤ) where
  abbrev product : List ℕ → ℤ
  product [] = pos 1
  product (i ∷ m) = ρ i *ℤ product m

  abbrev total : Poly → ℤ
  total none = pos 0
  total (term c l p) = c *ℤ product l +ℤ total p

  put_is : (i : ℕ) (m : List ℕ) → product (put i m) ≡ ρ i *ℤ product m
  put_is i [] = refl
  put_is i (j ∷ m) = go (leb i j) (put_is i m)
    where
      go : (t : Bool) → product (put i m) ≡ ρ i *ℤ product m → product (elim t [ true ↦ i ∷ (j ∷ m) | false ↦ j ∷ put i m ]) ≡ ρ i *ℤ (ρ j *ℤ product m)
      go true h = refl
      go false h = ap (λ x. ρ j *ℤ x) h ∙ swap (ρ j) (ρ i) (product m)

  join_is : (l m : List ℕ) → product (join l m) ≡ product l *ℤ product m
  join_is [] m = sym (one_mul (product m))
  join_is (i ∷ l) m = put_is i (join l m) ∙ ap (λ x. ρ i *ℤ x) (join_is l m) ∙ sym (mul_assoc (ρ i) (product l) (product m))

  add_is : (c : ℤ) (l : List ℕ) (p : Poly) → total (add c l p) ≡ c *ℤ product l +ℤ total p
  add_is c l none = refl
  add_is c l (term d m p) = go (equal l m) refl (add_is c l p)
    where
      go : (t : Bool) → equal l m ≡ t → total (add c l p) ≡ c *ℤ product l +ℤ total p → total (elim t [ true ↦ term (c +ℤ d) m p | false ↦ term d m (add c l p) ]) ≡ c *ℤ product l +ℤ (d *ℤ product m +ℤ total p)
      go true e h = rw (equal→eq l m (subst T (sym e) tt), add_mul c d (product m)) (+ℤ_assoc (c *ℤ product m) (d *ℤ product m) (total p))
      go false e h = omega linear

  gather_is : (c : ℤ) (l : List ℕ) (q r : Poly) → total (gather c l q r) ≡ c *ℤ product l *ℤ total q +ℤ total r
  gather_is c l none r = omega (linear, mul_zero (c *ℤ product l))
  gather_is c l (term d m q) r =
      let h = gather_is c l q (add (c *ℤ d) (join l m) r) in
      let s = add_is (c *ℤ d) (join l m) r in
      let j = ap (λ x. c *ℤ d *ℤ x) (join_is l m) ∙ cross c d (product l) (product m) in
      omega (linear, mul_add (c *ℤ product l) (d *ℤ product m) (total q))

  times_is : (p q : Poly) → total (times p q) ≡ total p *ℤ total q
  times_is none q = sym (zero_mul (total q))
  times_is (term c l p) q = gather_is c l q (times p q) ∙ ap (λ x. c *ℤ product l *ℤ total q +ℤ x) (times_is p q) ∙ sym (add_mul (c *ℤ product l) (total p) (total q))

  normal_is : (e : Expr) → total (normal e) ≡ value ρ e
  normal_is (var i) = omega (linear, one_mul (ρ i *ℤ pos 1), mul_one (ρ i))
  normal_is (con z) = omega (linear, mul_one z)
  normal_is (e ⊕ f) =
      let h = normal_is e in
      let k = normal_is f in
      omega (linear, gather_is (pos 1) [] (normal e) (normal f), one_mul (total (normal e)))
  normal_is (e ⊗ f) = times_is (normal e) (normal f) ∙ cc (normal_is e, normal_is f)
  normal_is (⊖ e) =
      let h = normal_is e in
      omega (linear, gather_is (negsuc 0) [] (normal e) none, neg_mul (pos 1) (total (normal e)), one_mul (total (normal e)))

  vanishes→zero : (p : Poly) → T (vanishes p) → total p ≡ pos 0
  vanishes→zero none t = refl
  vanishes→zero (term c l p) t =
      let b = both (is_zero c) (vanishes p) t in
      let z = ap (λ x. x *ℤ product l) (is_zero→eq c b.0) ∙ zero_mul (product l) in
      omega (linear, vanishes→zero p b.1)

  -- two expressions whose difference has zero coefficients alone have one value
  same_value : (e f : Expr) → T (vanishes (normal (e ⊝ f))) → value ρ e ≡ value ρ f
  same_value e f t =
      let h = sym (normal_is (e ⊝ f)) ∙ vanishes→zero (normal (e ⊝ f)) t in
      omega linear

pub data Equation : Type 0 where
  ◌≐◌ : Expr → Expr → Equation

-- an equation in n variables, which a λ binds
abbrev pub Open : ℕ → Type 0
Open zero = Equation
Open (suc n) = Expr → Open n

-- the variables numbered from i on
abbrev pub closed : (n : ℕ) → ℕ → Open n → Equation
closed zero i q = q
closed (suc n) i f = closed n (suc i) (f (var i))

-- the test
abbrev pub holds : Equation → Bool
holds (e ≐ f) = vanishes (normal (e ⊝ f))

abbrev pub Says : Equation → List ℤ → Type 0
Says (e ≐ f) xs = value (λ i. get_or xs i (pos 0)) e ≡ value (λ i. get_or xs i (pos 0)) f

-- for any n integers
abbrev pub All : ℕ → (List ℤ → Type 0) → Type 0
All zero P = P []
All (suc n) P = (x : ℤ) → All n (λ xs. P (x ∷ xs))

everywhere : (n : ℕ) (P : List ℤ → Type 0) → ((xs : List ℤ) → P xs) → All n P
everywhere zero P h = h []
everywhere (suc n) P h = λ x. everywhere n (λ xs. P (x ∷ xs)) (λ xs. h (x ∷ xs))

holds→says : (q : Equation) → T (holds q) → (xs : List ℤ) → Says q xs
holds→says (e ≐ f) t xs = same_value (λ i. get_or xs i (pos 0)) e f t

-- an equation that passes the test holds for all integers
pub solve : (n : ℕ) (f : Open n) → T (holds (closed n 0 f)) → All n (Says (closed n 0 f))
solve n f t = everywhere n (Says (closed n 0 f)) (holds→says (closed n 0 f) t)
