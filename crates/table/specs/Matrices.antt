-- What a finished table tells of the matrices that are members of the action that it was grown from.
--     MatrixLaw start t s links     two words with one matrix lead to one row; a matrix is a member exactly when its words lead to
--                                   row 0, and exactly when it is a product of the generators, which are one more than the rows
use Rattle.std.specs.Prelude.{◌≡◌, ◌+◌, ◌↔◌, List, length}
use Rattle.modular.specs.declared.letter.Letter.{Letter}
use Rattle.modular.specs.Actions.{Member}
use Rattle.modular.specs.Matrix.{M2}
use Rattle.modular.specs.Words.{matrix}
use Rattle.table.specs.declared.link.Link.{Link}
use Rattle.table.specs.Finished.{row_of}
use Rattle.table.specs.Generators.{generators, Product}

pub record MatrixLaw {R : Type 0} (start : R) (t s : R → R) (links : List Link) : Type 0 where
  pub through : (u v : List Letter) → matrix u ≡ matrix v → row_of links u ≡ row_of links v
  pub members : (w : List Letter) → Member start t s (matrix w) ↔ (row_of links w ≡ 0)
  pub generated : (M : M2) → Member start t s M ↔ Product (generators links) M
  pub as_many : length (generators links) ≡ length links + 1
