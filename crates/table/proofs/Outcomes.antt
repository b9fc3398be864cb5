-- An answer is no refusal, and what is found is not missing.
use Rattle.std.proofs.Common.{◌≡◌, ℕ, Some, None, Ok, Err, arith}
use Rattle.table.specs.declared.refusal.Refusal.{Refusal}

module _ {A : Type 0} where
  pub refused : {e : Refusal} {a : A} {X : Type 0} → Err e ≡ Ok a → X
  refused {e} {a} q = let z : ◌≡◌ {A = ℕ} 0 1 = cc in absurd (omega arith)

  pub some_same : {a b : A} → Some a ≡ Some b → a ≡ b
  some_same q = cc

  pub none_some : {a : A} {X : Type 0} → None ≡ Some a → X
  none_some {a} q = let z : ◌≡◌ {A = ℕ} 0 1 = cc in absurd (omega arith)
