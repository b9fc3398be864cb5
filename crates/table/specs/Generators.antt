-- The generators of a finished table, one for each edge that is no tree edge.
--     word_matrix links r     the matrix of the word of row r
--     is_tree links e         edge e is the one by which a row from 1 on was first reached
--     generator_at links e    the matrix of an edge from r to q by g: that of r's word, times g, times the inverse of that of q's word
--     other_edges links       the edges that are no tree edges, in their order
--     generators links       their matrices
--     Product P M            M is a product of matrices of P; the empty product is the identity
use Rattle.std.specs.Prelude.{ℕ, zero, suc, ◌*◌, ◌/◌, Bool, cond, ◌&&◌, List, [], ◌∷◌, ◌++◌, map, length, ◌==◌, nat_lt}
use Rattle.modular.specs.Matrix.{M2, identity, inverted, ◌·◌}
use Rattle.modular.specs.Words.{matrix, of_letter}
use Rattle.table.specs.declared.link.Link.{Link}
use Rattle.table.specs.Acting.{word_of}
use Rattle.table.specs.Links.{at, aim_at, edge, letter_at}

abbrev pub word_matrix : List Link → ℕ → M2
word_matrix links r = matrix (word_of links r)

abbrev pub is_tree : List Link → ℕ → Bool
is_tree links e = nat_lt 0 (aim_at links e) && edge (at links (aim_at links e)).parent (at links (aim_at links e)).letter == e

abbrev pub generator_at : List Link → ℕ → M2
generator_at links e = (word_matrix links (e / 2) · of_letter (letter_at e)) · inverted (word_matrix links (aim_at links e))

-- the edges below n that are no tree edges
abbrev pub other_below : List Link → ℕ → List ℕ
other_below links zero = []
other_below links (suc n) = cond (is_tree links n) (other_below links n) (other_below links n ++ n ∷ [])

abbrev pub other_edges : List Link → List ℕ
other_edges links = other_below links (2 * length links)

abbrev pub generators : List Link → List M2
generators links = map (generator_at links) (other_edges links)

-- x is one of xs
pub data In (x : M2) : List M2 → Type 0 where
  here : {xs : List M2} → In x (x ∷ xs)
  there : {y : M2} {xs : List M2} → In x xs → In x (y ∷ xs)

pub data Product (xs : List M2) : M2 → Type 0 where
  none : Product xs identity
  more : (x y : M2) → In x xs → Product xs y → Product xs (x · y)
