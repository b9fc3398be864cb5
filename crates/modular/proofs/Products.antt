-- Products of two-by-two matrices over the integers.
use Rattle.std.proofs.Common.{◌≡◌, List, [], ◌∷◌, ◌++◌, ℤ, pos, ◌+ℤ◌, ◌-ℤ◌, ◌*ℤ◌, neg_ℤ, sym, ◌∙◌}
use Rattle.numbers.proofs.Ring.{solve, ◌⊕◌, ◌⊗◌, ◌⊝◌, ⊖◌, ◌≐◌, con}
use Rattle.modular.specs.declared.letter.Letter.{Letter}
use Rattle.modular.specs.Matrix.{M2, identity, det, ◌·◌, inverted, Undoes}
use Rattle.modular.specs.Words.{of_letter, matrix}

-- two matrices with equal entries are equal
pub same : (x y : M2) → x.a ≡ y.a → x.b ≡ y.b → x.c ≡ y.c → x.d ≡ y.d → x ≡ y
same x y p q r s = λ i. record { a = p i; b = q i; c = r i; d = s i }

-- an entry of a product of three is the same from the left and from the right
entry_assoc : (a b e f g h i k : ℤ) →
    (a *ℤ e +ℤ b *ℤ g) *ℤ i +ℤ (a *ℤ f +ℤ b *ℤ h) *ℤ k ≡ a *ℤ (e *ℤ i +ℤ f *ℤ k) +ℤ b *ℤ (g *ℤ i +ℤ h *ℤ k)
entry_assoc = solve 8 (λ a b e f g h i k.
    (a ⊗ e ⊕ b ⊗ g) ⊗ i ⊕ (a ⊗ f ⊕ b ⊗ h) ⊗ k ≐ a ⊗ (e ⊗ i ⊕ f ⊗ k) ⊕ b ⊗ (g ⊗ i ⊕ h ⊗ k)) tt

pub product_assoc : (x y z : M2) → (x · y) · z ≡ x · (y · z)
product_assoc x y z = same ((x · y) · z) (x · (y · z))
    (entry_assoc x.a x.b y.a y.b y.c y.d z.a z.c)
    (entry_assoc x.a x.b y.a y.b y.c y.d z.b z.d)
    (entry_assoc x.c x.d y.a y.b y.c y.d z.a z.c)
    (entry_assoc x.c x.d y.a y.b y.c y.d z.b z.d)

pub one_left : (p q : ℤ) → pos 1 *ℤ p +ℤ pos 0 *ℤ q ≡ p
one_left = solve 2 (λ p q. con (pos 1) ⊗ p ⊕ con (pos 0) ⊗ q ≐ p) tt

pub one_right : (p q : ℤ) → p *ℤ pos 1 +ℤ q *ℤ pos 0 ≡ p
one_right = solve 2 (λ p q. p ⊗ con (pos 1) ⊕ q ⊗ con (pos 0) ≐ p) tt

pub zero_left : (p q : ℤ) → pos 0 *ℤ p +ℤ pos 1 *ℤ q ≡ q
zero_left = solve 2 (λ p q. con (pos 0) ⊗ p ⊕ con (pos 1) ⊗ q ≐ q) tt

pub zero_right : (p q : ℤ) → p *ℤ pos 0 +ℤ q *ℤ pos 1 ≡ q
zero_right = solve 2 (λ p q. p ⊗ con (pos 0) ⊕ q ⊗ con (pos 1) ≐ q) tt

pub identity_left : (x : M2) → identity · x ≡ x
identity_left x = same (identity · x) x (one_left x.a x.c) (one_left x.b x.d) (zero_left x.a x.c) (zero_left x.b x.d)

pub identity_right : (x : M2) → x · identity ≡ x
identity_right x = same (x · identity) x (one_right x.a x.b) (zero_right x.a x.b) (one_right x.c x.d) (zero_right x.c x.d)

-- a row times a column of the inverse: the determinant, or nothing
keeps : (a b c d : ℤ) → a *ℤ d +ℤ b *ℤ neg_ℤ c ≡ a *ℤ d -ℤ b *ℤ c
keeps = solve 4 (λ a b c d. a ⊗ d ⊕ b ⊗ ⊖ c ≐ a ⊗ d ⊝ b ⊗ c) tt

swaps : (a b c d : ℤ) → c *ℤ neg_ℤ b +ℤ d *ℤ a ≡ a *ℤ d -ℤ b *ℤ c
swaps = solve 4 (λ a b c d. c ⊗ ⊖ b ⊕ d ⊗ a ≐ a ⊗ d ⊝ b ⊗ c) tt

turns : (a b c d : ℤ) → d *ℤ a +ℤ neg_ℤ b *ℤ c ≡ a *ℤ d -ℤ b *ℤ c
turns = solve 4 (λ a b c d. d ⊗ a ⊕ (⊖ b) ⊗ c ≐ a ⊗ d ⊝ b ⊗ c) tt

turns_back : (a b c d : ℤ) → neg_ℤ c *ℤ b +ℤ a *ℤ d ≡ a *ℤ d -ℤ b *ℤ c
turns_back = solve 4 (λ a b c d. (⊖ c) ⊗ b ⊕ a ⊗ d ≐ a ⊗ d ⊝ b ⊗ c) tt

cancels : (p q : ℤ) → p *ℤ neg_ℤ q +ℤ q *ℤ p ≡ pos 0
cancels = solve 2 (λ p q. p ⊗ ⊖ q ⊕ q ⊗ p ≐ con (pos 0)) tt

cancels_second : (p q : ℤ) → p *ℤ q +ℤ q *ℤ neg_ℤ p ≡ pos 0
cancels_second = solve 2 (λ p q. p ⊗ q ⊕ q ⊗ ⊖ p ≐ con (pos 0)) tt

cancels_first : (p q : ℤ) → q *ℤ p +ℤ neg_ℤ p *ℤ q ≡ pos 0
cancels_first = solve 2 (λ p q. q ⊗ p ⊕ (⊖ p) ⊗ q ≐ con (pos 0)) tt

cancels_both : (p q : ℤ) → neg_ℤ p *ℤ q +ℤ q *ℤ p ≡ pos 0
cancels_both = solve 2 (λ p q. (⊖ p) ⊗ q ⊕ q ⊗ p ≐ con (pos 0)) tt

-- at determinant 1 the inverse undoes from either side
pub inverted_undoes : (x : M2) → det x ≡ pos 1 → Undoes x (inverted x)
inverted_undoes x e = record {
  after = same (x · inverted x) identity
      (keeps x.a x.b x.c x.d ∙ e) (cancels x.a x.b)
      (cancels_second x.c x.d) (swaps x.a x.b x.c x.d ∙ e);
  before = same (inverted x · x) identity
      (turns x.a x.b x.c x.d ∙ e) (cancels_first x.b x.d)
      (cancels_both x.c x.a) (turns_back x.a x.b x.c x.d ∙ e);
}

-- a letter more at the end of a word multiplies on the right
pub matrix_append : (u v : List Letter) → matrix (u ++ v) ≡ matrix u · matrix v
matrix_append [] v = sym (identity_left (matrix v))
matrix_append (g ∷ u) v = (λ i. of_letter g · matrix_append u v i) ∙ sym (product_assoc (of_letter g) (matrix u) (matrix v))

-- the matrix of a word and a letter after it
pub matrix_snoc : (w : List Letter) (g : Letter) → matrix (w ++ g ∷ []) ≡ matrix w · of_letter g
matrix_snoc w g = matrix_append w (g ∷ []) ∙ (λ i. matrix w · identity_right (of_letter g) i)
