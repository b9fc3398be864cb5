-- Words in the letters T and S, and their matrices.
--     of_letter g    the matrix of a letter
--     letter_of c    the letter that the character c names, if any
--     Names c r      r is the letter that c names, or says that c names none
--     name_of g      the character that names the letter g
--     matrix w      the product of the letters of w, from left to right
--     Held w        the matrix of w and of each word that w begins with can be held
use Rattle.std.specs.Prelude.{◌≡◌, ℕ, ◌≤◌, true, false, List, [], ◌∷◌, length, take, pos, negsuc, Some, None, Option, Result, MatchResult, ◌==◌}
use Rattle.modular.specs.declared.letter.Letter.{Letter}
use Rattle.modular.specs.declared.letter.NotALetter.{NotALetter}
use Rattle.modular.specs.declared.letter.Letter.TheVariants.{T, S}
use Rattle.modular.specs.Matrix.{M2, Fits, identity, ◌·◌}

abbrev pub of_letter : Letter → M2
of_letter T = record { a = pos 1; b = pos 1; c = pos 0; d = pos 1 }
of_letter S = record { a = pos 0; b = negsuc 0; c = pos 1; d = pos 0 }

-- the characters T and S, by their codes, name the letters
abbrev pub letter_of : ℕ → Option Letter
letter_of c = elim (c == 84) [ true ↦ Some T | false ↦ elim (c == 83) [ true ↦ Some S | false ↦ None ] ]

abbrev pub Names : ℕ → Result Letter NotALetter → Type 0
Names c r = MatchResult r (λ g. letter_of c ≡ Some g) (λ e. (letter_of c ≡ None) × (e.0 ≡ c))

abbrev pub name_of : Letter → ℕ
name_of T = 84
name_of S = 83

abbrev pub matrix : List Letter → M2
matrix [] = identity
matrix (g ∷ w) = of_letter g · matrix w

abbrev pub Held : List Letter → Type 0
Held w = (k : ℕ) → k ≤ length w → Fits (matrix (take k w))
