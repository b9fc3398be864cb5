-- The table of the four squares, fill by fill: each state is written down, and each fill computes from one to the next.
use Rattle.std.proofs.Common.{◌≡◌, ℕ, zero, suc, ◌+◌, ◌*◌, true, cond, ltb, List, [], ◌∷◌, map, get_or, refl, ap, ◌∙◌}
use Rattle.std.specs.List.{range_with_len}
use Rattle.modular.specs.declared.letter.Letter.{Letter}
use Rattle.modular.specs.declared.letter.Letter.TheVariants.{T, S}
use Rattle.origami.specs.Forms.{least, reading, earlier}
use Rattle.origami.specs.Gluings.{padded}
use Rattle.origami.specs.Listings.{listed}
use Rattle.origami.specs.Origamis.{inside, sheared_form, turned_form, alike}
use Rattle.origami.specs.declared.gluing.Gluing.{Gluing}
use Rattle.table.specs.declared.link.Link.{Link}
use Rattle.table.specs.Growing.{Growing, filling}
use Rattle.table.specs.Links.{empty}
use Rattle.worked.specs.Examples.{grown_by, four_squares, four_grown, four_hold, four_declined, number}

-- the rows, in their order
abbrev nine : List Gluing
nine =
    listed (1 ∷ 3 ∷ 4 ∷ 2 ∷ []) (2 ∷ 1 ∷ 3 ∷ 4 ∷ [])
    ∷ listed (1 ∷ 3 ∷ 4 ∷ 2 ∷ []) (2 ∷ 3 ∷ 4 ∷ 1 ∷ [])
    ∷ listed (1 ∷ 2 ∷ 4 ∷ 3 ∷ []) (2 ∷ 3 ∷ 1 ∷ 4 ∷ [])
    ∷ listed (1 ∷ 3 ∷ 4 ∷ 2 ∷ []) (2 ∷ 4 ∷ 1 ∷ 3 ∷ [])
    ∷ listed (2 ∷ 3 ∷ 4 ∷ 1 ∷ []) (1 ∷ 4 ∷ 2 ∷ 3 ∷ [])
    ∷ listed (1 ∷ 2 ∷ 4 ∷ 3 ∷ []) (2 ∷ 3 ∷ 4 ∷ 1 ∷ [])
    ∷ listed (2 ∷ 3 ∷ 4 ∷ 1 ∷ []) (1 ∷ 3 ∷ 4 ∷ 2 ∷ [])
    ∷ listed (2 ∷ 3 ∷ 4 ∷ 1 ∷ []) (1 ∷ 2 ∷ 4 ∷ 3 ∷ [])
    ∷ listed (2 ∷ 3 ∷ 4 ∷ 1 ∷ []) (2 ∷ 4 ∷ 1 ∷ 3 ∷ [])
    ∷ []

abbrev row : ℕ → Gluing
row i = get_or nine i (listed [] [])

-- how many rows are held after k fills
abbrev held : ℕ → ℕ
held k = get_or (1 ∷ 2 ∷ 3 ∷ 4 ∷ 5 ∷ 6 ∷ 6 ∷ 6 ∷ 7 ∷ 8 ∷ 8 ∷ 8 ∷ 8 ∷ 9 ∷ 9 ∷ 9 ∷ 9 ∷ 9 ∷ 9 ∷ []) k 0

-- the edge with the number e after k fills
abbrev target : ℕ → ℕ → ℕ
target k e = cond (ltb e k) (get_or (1 ∷ 2 ∷ 3 ∷ 4 ∷ 5 ∷ 0 ∷ 0 ∷ 6 ∷ 7 ∷ 1 ∷ 2 ∷ 7 ∷ 8 ∷ 3 ∷ 6 ∷ 5 ∷ 4 ∷ 8 ∷ []) e 0) 65535

abbrev reached_by : ℕ → Letter
reached_by i = get_or (T ∷ T ∷ S ∷ T ∷ S ∷ T ∷ S ∷ T ∷ T ∷ []) i T

abbrev link : ℕ → ℕ → Link
link k i = record { t = target k (2 * i); s = target k (2 * i + 1); parent = get_or (0 ∷ 0 ∷ 0 ∷ 1 ∷ 1 ∷ 2 ∷ 3 ∷ 4 ∷ 6 ∷ []) i 0; letter = reached_by i }

-- all memory for n rows after k fills
abbrev pub after : ℕ → ℕ → Growing Gluing
after n k = record {
  counts = record { size = n; held = held k; filled = k };
  rows = map (λ i. cond (ltb i (held k)) (row i) (row 0)) (range_with_len 0 n);
  links = map (λ i. cond (ltb i (held k)) (link k i) (empty 0 T)) (range_with_len 0 n);
}

abbrev grown : ℕ → ℕ → Growing Gluing
grown n k = grown_by (row 0) sheared_form turned_form alike n k

abbrev filled : Growing Gluing → Growing Gluing
filled m = (filling (row 0) sheared_form turned_form alike m).memory

-- each of the first k fills computes
abbrev Computes : ℕ → ℕ → Type 0
Computes n zero = grown n 0 ≡ after n 0
Computes n (suc k) = (filled (after n k) ≡ after n (suc k)) × Computes n k

chained : (n k : ℕ) → Computes n k → grown n k ≡ after n k
chained n zero start = start
chained n (suc k) (next, so_far) = ap filled (chained n k so_far) ∙ next

-- the least form of the four squares is row 0
pub first : four_squares ≡ row 0
unfolding least reading earlier padded
first = refl

nine_computes : Computes 9 18
unfolding least reading earlier padded inside
nine_computes = (refl, (refl, (refl, (refl, (refl, (refl, (refl, (refl, (refl, (refl, (refl, (refl, (refl, (refl, (refl, (refl, (refl, (refl, refl))))))))))))))))))

eight_computes : Computes 8 12
unfolding least reading earlier padded inside
eight_computes = (refl, (refl, (refl, (refl, (refl, (refl, (refl, (refl, (refl, (refl, (refl, (refl, refl))))))))))))

-- memory for 9 rows after 18 fills, and for 8 after 12
pub nine_grown : four_grown 9 18 ≡ after 9 18
nine_grown = ap (λ g. grown_by g sheared_form turned_form alike 9 18) first ∙ chained 9 18 nine_computes

pub eight_grown : four_grown 8 12 ≡ after 8 12
eight_grown = ap (λ g. grown_by g sheared_form turned_form alike 8 12) first ∙ chained 8 12 eight_computes

-- what is then asked of them
pub four : four_hold (four_grown 9 18).links ≡ true
unfolding padded
four = ap (λ m. four_hold m.links) nine_grown ∙ refl

pub nine_take_18 : (four_grown 9 18).counts.filled ≡ 18
nine_take_18 = ap (λ m. m.counts.filled) nine_grown

pub eight_take_12 : (four_grown 8 12).counts.filled ≡ 12
eight_take_12 = ap (λ m. m.counts.filled) eight_grown

pub no_edge_left : four_declined (four_grown 9 18) ≡ 9
no_edge_left = ap four_declined nine_grown ∙ refl

eight_declined : number (filling (row 0) sheared_form turned_form alike (after 8 12)).answer ≡ 8
unfolding least reading earlier padded inside
eight_declined = refl

pub no_free_row : four_declined (four_grown 8 12) ≡ 8
no_free_row = ap four_declined eight_grown ∙ (ap (λ g. number (filling g sheared_form turned_form alike (after 8 12)).answer) first ∙ eight_declined)
