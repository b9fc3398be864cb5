-- Words of the inverses of the two letters.
use Rattle.std.specs.Prelude.{List, [], ◌∷◌}
use Rattle.modular.specs.declared.letter.Letter.{Letter}
use Rattle.modular.specs.declared.letter.Letter.TheVariants.{T, S}

-- its matrix is 1 −1 0 1
abbrev pub back_t : List Letter
back_t = S ∷ S ∷ S ∷ T ∷ S ∷ T ∷ S ∷ []

-- its matrix is 0 1 −1 0
abbrev pub back_s : List Letter
back_s = S ∷ S ∷ S ∷ []
