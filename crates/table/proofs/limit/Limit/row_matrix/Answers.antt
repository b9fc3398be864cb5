-- The written characters are those of the row's word.
use Rattle.std.proofs.Common.{◌≡◌, true, List, [], ◌∷◌, refl, ap, ◌∙◌, subst}
use Rattle.std.specs.Option.{SomeIff}
use Rattle.modular.specs.declared.letter.Letter.{Letter}
use Rattle.modular.specs.declared.letter.Letter.TheVariants.{T, S}
use Rattle.modular.specs.Matrix.{identity, rows}
use Rattle.modular.specs.Words.{matrix}
use Rattle.table.specs.Acting.{word_of}
use Rattle.table.specs.Questions.{characters, letters, prefixes}
use Rattle.table.proofs.limit.Limit.row_matrix.Goals as goal

-- a letter is read back from its character
read_back : (w : List Letter) → letters (characters w) ≡ w
read_back [] = refl
read_back (T ∷ w) = ap (λ v. T ∷ v) (read_back w)
read_back (S ∷ w) = ap (λ v. S ∷ v) (read_back w)

pub returns : goal.returns
returns c =
    let w = word_of c.args.links.links.now c.args.row in
    let e = ap letters c.write_word.ensures ∙ read_back w in
    subst (λ v. SomeIff c.word_matrix.result (prefixes c.args.self.most identity v ≡ true) (rows (matrix v))) e c.word_matrix.ensures
