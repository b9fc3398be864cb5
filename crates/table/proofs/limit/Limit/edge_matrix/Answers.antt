-- The two words of the edge, and the matrix that they leave.
use Rattle.std.proofs.Common.{◌≡◌, ℕ, Bool, true, ◌&&◌, List, [], ◌∷◌, ◌++◌, ℤ, Option, sym, ap, ◌∙◌}
use Rattle.std.specs.Option.{SomeIff}
use Rattle.std.proofs.lemmas.Bool.{and_parts, and_from}
use Rattle.modular.specs.declared.letter.Letter.{Letter}
use Rattle.modular.specs.Matrix.{M2, det, entries, identity, inverted, rows, ◌·◌}
use Rattle.modular.specs.Words.{of_letter}
use Rattle.modular.proofs.Through.{det_word}
use Rattle.table.specs.declared.link.Link.{Link}
use Rattle.table.specs.Acting.{word_of}
use Rattle.table.specs.Generators.{word_matrix, generator_at}
use Rattle.table.specs.Links.{aim_at, edge}
use Rattle.table.specs.Questions.{prefixes, within, narrow}
use Rattle.table.specs.laws.Edges.{row_edge, letter_edge}
use Rattle.table.proofs.Limits.{prefix_whole, checked_as}
use Rattle.table.proofs.limit.Limit.edge_matrix.Goals as goal

-- the matrix of the edge of g from r to q, and whether it and its words are narrow
module _ (links : List Link) (n r : ℕ) (g : Letter) (q : ℕ) where
  abbrev by : M2
  by = (word_matrix links r · of_letter g) · inverted (word_matrix links q)

  abbrev there : Bool
  there = prefixes n identity (word_of links r ++ g ∷ [])

  abbrev back : Bool
  back = prefixes n identity (word_of links q)

  -- it is told as the definitions tell it, by the edge's number
  told : q ≡ aim_at links (edge r g) → (o : Option (List (List ℤ))) → SomeIff o ((there && (back && within n by)) ≡ true) (rows by)
      → SomeIff o (narrow links n (edge r g) ≡ true) (rows (generator_at links (edge r g)))
  told e o h =
      let same : generator_at links (edge r g) ≡ by = λ i. (word_matrix links (row_edge r g i) · of_letter (letter_edge r g i)) · inverted (word_matrix links (sym e i)) in
      let test : narrow links n (edge r g) ≡ (there && (back && within n by)) =
      λ i. prefixes n identity (word_of links (row_edge r g i) ++ letter_edge r g i ∷ []) && (prefixes n identity (word_of links (sym e i)) && within n (same i)) in
      checked_as o _ (narrow links n (edge r g) ≡ true) _ (rows (generator_at links (edge r g))) (λ p. test ∙ p) (λ p. sym test ∙ p) (ap rows (sym same)) h

pub undone-requires : goal.undone-requires
undone-requires c =
    let w = word_of c.args.links.links.now c.aim.result in
    let p = c.in_ok-target.ensures in
    record {
      inside = ap (λ m. within c.args.self.most (entries m)) p.1 ∙ prefix_whole c.args.self.most w p.0;
      one = ap (λ m. det (entries m)) p.1 ∙ det_word w;
    }

pub returns : goal.returns
returns c =
    let links = c.args.links.links.now in
    let n = c.args.self.most in
    let r = c.args.by.row in
    let g = c.args.by.letter in
    let q = c.aim.result in
    let x = entries c.in_ok-walked.walked · inverted (entries c.in_ok-target.target) in
    let e : x ≡ by links n r g q = λ i. entries (c.in_ok-walked.ensures.1 i) · inverted (entries (c.in_ok-target.ensures.1 i)) in
    told links n r g q c.aim.ensures _
    (checked_as c.undone.result (within n x ≡ true) ((there links n r g q && (back links n r g q && within n (by links n r g q))) ≡ true) (rows x) (rows (by links n r g q))
    (λ h. and_from (there links n r g q) _ c.in_ok-walked.ensures.0 (and_from (back links n r g q) _ c.in_ok-target.ensures.0 (ap (within n) (sym e) ∙ h)))
    (λ h. ap (within n) e ∙ (and_parts (back links n r g q) _ (and_parts (there links n r g q) (back links n r g q && within n (by links n r g q)) h).1).1)
    (ap rows e) c.undone.ensures)
