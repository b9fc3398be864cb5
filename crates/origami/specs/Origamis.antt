-- The action on gluings, and its members.
--     inside g         g has 1 to 16 squares, and each neighbour is one of them; other records are left as they are
--     inside_below g n  the neighbours of the squares below n are squares
--     form g           the least form of g
--     IsPoint g        g is a gluing, and its own least form
--     sheared_form g    the T step: the least form of sheared g
--     turned_form g     the S step: the least form of turned g
--     alike g k        g and k agree in all fields
--     plainly w g      where the steps of the word w lead from g, with no least form taken
--     VeechGroup g In  a matrix of determinant 1 is In exactly when some word of it turns g into a renumbering of g,
--                      and exactly when every word of it does
--     OneForm g k      g and k have one least form exactly when a renumbering turns one into the other
--     Made xs ys g In  what the maker promises: it accepts the lists xs and ys, g is their gluing, and In is its Veech group
use Rattle.std.specs.Prelude.{◌≡◌, ℕ, zero, suc, Bool, true, cond, ◌&&◌, ◌↔◌, List, pos, ◌==◌, nat_le, nat_lt}
use Rattle.modular.specs.declared.letter.Letter.{Letter}
use Rattle.modular.specs.Actions.{lead}
use Rattle.modular.specs.Matrix.{M2, det}
use Rattle.modular.specs.Words.{matrix}
use Rattle.std.specs.Str.{bytes_eq}
use Rattle.origami.specs.declared.gluing.Gluing.{Gluing}
use Rattle.origami.specs.Forms.{least}
use Rattle.origami.specs.Gluings.{right_of, up_of, Glues, Renumbered, sheared, turned}
use Rattle.origami.specs.Listings.{Accepted, listed}

abbrev pub inside_below : Gluing → ℕ → Bool
inside_below g zero = true
inside_below g (suc n) = inside_below g n && (nat_lt (right_of g n) g.degree && nat_lt (up_of g n) g.degree)

unfoldable pub inside : Gluing → Bool
inside g = nat_lt 0 g.degree && (nat_le g.degree 16 && inside_below g g.degree)

abbrev pub form : Gluing → Gluing
form g = cond (inside g) (least g) g

pub record IsPoint (g : Gluing) : Type 0 where
  pub glues : Glues g
  pub own : least g ≡ g

abbrev pub sheared_form : Gluing → Gluing
sheared_form g = cond (inside g) (least (sheared g)) g

abbrev pub turned_form : Gluing → Gluing
turned_form g = cond (inside g) (least (turned g)) g

abbrev pub alike : Gluing → Gluing → Bool
alike g k = g.degree == k.degree && (bytes_eq g.right k.right && bytes_eq g.up k.up)

abbrev pub plainly : List Letter → Gluing → Gluing
plainly w g = lead sheared turned w g

pub record VeechGroup (g : Gluing) (In : M2 → Type 0) : Type 0 where
  pub some_word : (M : M2) → det M ≡ pos 1 → In M ↔ ((w : List Letter) × (matrix w ≡ M) × Renumbered g (plainly w g))
  pub every_word : (M : M2) → det M ≡ pos 1 → In M ↔ ((w : List Letter) → matrix w ≡ M → Renumbered g (plainly w g))

abbrev pub OneForm : Gluing → Gluing → Type 0
OneForm g k = (least g ≡ least k) ↔ Renumbered g k

pub record Made (xs ys : List ℕ) (g : Gluing) (In : M2 → Type 0) : Type 0 where
  pub accepted : Accepted xs ys
  pub as_listed : g ≡ listed xs ys
  pub veech : VeechGroup g In
