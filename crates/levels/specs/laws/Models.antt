-- An action that is a picture of the integer matrices, each step being the multiplication by its letter from the right.
use Rattle.std.specs.Prelude.{◌≡◌, List, [], ◌∷◌}
use Rattle.std.proofs.Common.{sym, ◌∙◌, ap}
use Rattle.modular.specs.declared.letter.Letter.{Letter}
use Rattle.modular.specs.declared.letter.Letter.TheVariants.{T, S}
use Rattle.modular.specs.Actions.{lead}
use Rattle.modular.specs.Matrix.{M2, ◌·◌}
use Rattle.modular.specs.Words.{of_letter, matrix}
use Rattle.modular.proofs.Products.{product_assoc, identity_right}

pub record Pictures {R : Type 0} (f : M2 → R) (t s : R → R) : Type 0 where
  pub t_is : (x : M2) → t (f x) ≡ f (x · of_letter T)
  pub s_is : (x : M2) → s (f x) ≡ f (x · of_letter S)

module _ {R : Type 0} {f : M2 → R} {t s : R → R} (k : Pictures f t s) where
  -- a word leads from the picture of x to that of x times its matrix
  pub leads : (w : List Letter) (x : M2) → lead t s w (f x) ≡ f (x · matrix w)
  leads [] x = ap f (sym (identity_right x))
  leads (T ∷ w) x = ap (lead t s w) (k.t_is x) ∙ leads w (x · of_letter T) ∙ ap f (product_assoc x (of_letter T) (matrix w))
  leads (S ∷ w) x = ap (lead t s w) (k.s_is x) ∙ leads w (x · of_letter S) ∙ ap f (product_assoc x (of_letter S) (matrix w))

  -- the two laws hold of every picture, since they hold of the letters' matrices
  pub four_s : {p : R} (x : M2) → p ≡ f x → s (s (s (s p))) ≡ p
  four_s x e = ap (λ q. s (s (s (s q)))) e ∙ leads (S ∷ S ∷ S ∷ S ∷ []) x ∙ ap f (identity_right x) ∙ sym e

  pub three_st : {p : R} (x : M2) → p ≡ f x → t (s (t (s (t (s p))))) ≡ s (s p)
  three_st x e =
      ap (λ q. t (s (t (s (t (s q)))))) e ∙ leads (S ∷ T ∷ S ∷ T ∷ S ∷ T ∷ []) x
      ∙ sym (ap (λ q. s (s q)) e ∙ leads (S ∷ S ∷ []) x)
