-- What is written to the end of a text.
use Rattle.std.proofs.Common.{◌≡◌, ℕ, List, [], ◌∷◌, ◌++◌, ℤ, IfOk, Ok, Err, codes, decimal, Result, ap, ◌∙◌, append_assoc}
use Rattle.std.specs.Fmt.{signed_decimal}
use Rattle.modular.specs.declared.letter.Letter.TheVariants.{T, S}
use Rattle.table.specs.declared.link.Link.{Link}
use Rattle.table.specs.declared.shape.Shape.{Shape}
use Rattle.table.specs.Acting.{word_of}
use Rattle.table.specs.Links.{next}
use Rattle.table.specs.Questions.{characters}
use Rattle.listing.specs.Lines.{line, shape_lines, word_field, row_line}

-- the same bytes in other words
pub added : {X Y : Type 0} (r : Result X Y) (was text bs ds : List ℕ) → bs ≡ ds → IfOk r (λ _. text ≡ was ++ bs) → IfOk r (λ _. text ≡ was ++ ds)
added (Ok x) was text bs ds e h = h ∙ ap (λ l. was ++ l) e
added (Err y) was text bs ds e h = tt

pub shape_written : (s : Shape) (z : ℤ) → z ≡ s.genus12
    → codes "index=" ++ (decimal s.rows ++ (codes "\ncusps=" ++ (decimal s.cusps ++ (codes "\ne2=" ++ (decimal s.e2 ++ (codes "\ne3=" ++ (decimal s.e3 ++ (codes "\ngenus12=" ++ (signed_decimal z ++ codes "\n")))))))))
    ≡ shape_lines s
shape_written s z e = rw e (simp append_assoc)

pub row_written : (links : List Link) (r t s : ℕ) (w : List ℕ) → t ≡ next links T r → s ≡ next links S r → w ≡ word_field (characters (word_of links r))
    → codes "row=" ++ (decimal r ++ (codes "," ++ (decimal t ++ (codes "," ++ (decimal s ++ (codes "," ++ (w ++ codes "\n"))))))) ≡ row_line links r
row_written links r t s w d e f = λ i. line "row=" (decimal r ∷ decimal (d i) ∷ decimal (e i) ∷ f i ∷ [])
