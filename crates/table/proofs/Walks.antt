-- One letter of a walk.
use Rattle.std.proofs.Common.{◌≡◌, ℕ, ◌+◌, ◌<◌, ◌≤◌, Bool, true, false, List, ◌∷◌, length, Some, None, Err, Option, Result, ap, ◌∙◌}
use Rattle.std.proofs.lemmas.Bool.{le-leb, lt-leb}
use Rattle.modular.specs.declared.letter.Letter.{Letter}
use Rattle.modular.specs.Words.{letter_of}
use Rattle.table.specs.declared.link.Link.{Link}
use Rattle.table.specs.declared.refusal.Refusal.{Refusal}
use Rattle.table.specs.declared.refusal.Refusal.TheVariants.{NotALetter, EmptyEdge, Length}
use Rattle.table.specs.Growing.{leads_to, walk_from, walk}
use Rattle.table.specs.Links.{at}

module _ (n : ℕ) (links : List Link) where
  module _ (c : ℕ) (w : List ℕ) (k r : ℕ) where
    -- where the walk goes on along an edge, and by a character
    abbrev along : Option ℕ → Result ℕ Refusal
    along o = elim o [ None ↦ Err (EmptyEdge k) | Some q ↦ walk_from n links w (k + 1) q ]

    abbrev by : Option Letter → Result ℕ Refusal
    by o = elim o [ None ↦ Err (NotALetter k) | Some g ↦ along (leads_to n g (at links r)) ]

    pub walk_none : letter_of c ≡ None → walk_from n links (c ∷ w) k r ≡ Err (NotALetter k)
    walk_none e = ap by e

    pub walk_empty : (g : Letter) → letter_of c ≡ Some g → leads_to n g (at links r) ≡ None → walk_from n links (c ∷ w) k r ≡ Err (EmptyEdge k)
    walk_empty g e f = ap by e ∙ ap along f

    pub walk_on : (g : Letter) (q : ℕ) → letter_of c ≡ Some g → leads_to n g (at links r) ≡ Some q → walk_from n links (c ∷ w) k r ≡ walk_from n links w (k + 1) q
    walk_on g q e f = ap by e ∙ ap along f

  -- the whole walk, by the length of its word
  abbrev short : List ℕ → Bool → Result ℕ Refusal
  short w b = elim b [ true ↦ walk_from n links w 0 0 | false ↦ Err Length ]

  pub walk_long : (w : List ℕ) → 1000 < length w → walk n links w ≡ Err Length
  walk_long w h = ap (short w) (lt-leb (length w) 1000 h)

  pub walk_short : (w : List ℕ) → length w ≤ 1000 → walk n links w ≡ walk_from n links w 0 0
  walk_short w h = ap (short w) (le-leb (length w) 1000 h)
