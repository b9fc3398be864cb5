-- What `==` on arrays of rows answers.
use Rattle.std.proofs.Common.{◌≡◌, ℕ, List, [], ◌∷◌, ◌&&◌, refl, ap}
use Rattle.std.specs.Cmp.Lexicographic.{pointwise}
use Rattle.std.specs.Str.{bytes_eq}
use Rattle.levels.specs.Matrices.{alike}

pub rows_alike : (m k : List (List ℕ)) → pointwise bytes_eq m k ≡ alike m k
rows_alike [] [] = refl
rows_alike [] (s ∷ k) = refl
rows_alike (r ∷ m) [] = refl
rows_alike (r ∷ m) (s ∷ k) = ap (λ b. bytes_eq r s && b) (rows_alike m k)
