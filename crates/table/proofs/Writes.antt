-- Links read by the numbers of edges; what they hold after an edge is filled, and after a link is written; and which row a search finds.
use Rattle.std.proofs.Common.{◌≡◌, ℕ, zero, suc, ◌/◌, ◌<◌, Bool, true, false, List, [], ◌∷◌, length, get_or, set, Some, None, sym, refl, ap, ◌∙◌, inl, inr, arith, get_or-set_other, get_or-set_same, ne_eqb}
use Rattle.std.proofs.lemmas.Bool.{cases_eq}
use Rattle.modular.specs.declared.letter.Letter.{Letter}
use Rattle.modular.specs.declared.letter.Letter.TheVariants.{T, S}
use Rattle.table.specs.declared.link.Link.{Link}
use Rattle.table.specs.Growing.{aimed, linked, sought}
use Rattle.table.specs.Links.{aim, filled, empty, at, edge, letter_at, aim_at}
use Rattle.table.specs.SoundTest.{named}
use Rattle.table.specs.laws.Edges.{letter_edge, row_edge}
use Rattle.table.proofs.Codes.{edge_of}

pub parent_named : (links : List Link) (r : ℕ) → (at links r).parent ≡ named links r / 2
parent_named links r = sym (row_edge (at links r).parent (at links r).letter)

pub letter_named : (links : List Link) (r : ℕ) → (at links r).letter ≡ letter_at (named links r)
letter_named links r = sym (letter_edge (at links r).parent (at links r).letter)

-- a row number is no empty target
pub filled_some : (q : ℕ) → q < 65535 → filled q ≡ Some q
filled_some q l = ap (λ b. elim b [ true ↦ None | false ↦ Some q ]) (ne_eqb q 65535 (λ z. omega arith))

aim_same : (g : Letter) (n : ℕ) (l : Link) → aim g (aimed g n l) ≡ n
aim_same T n l = refl
aim_same S n l = refl

aim_other : (g k : Letter) (n : ℕ) (l : Link) → (k ≡ g → ⊥) → aim k (aimed g n l) ≡ aim k l
aim_other T T n l q = absurd (q refl)
aim_other T S n l q = refl
aim_other S T n l q = refl
aim_other S S n l q = absurd (q refl)

names_same : (g : Letter) (n : ℕ) (l : Link) → edge (aimed g n l).parent (aimed g n l).letter ≡ edge l.parent l.letter
names_same T n l = refl
names_same S n l = refl

-- edge e is made to lead to row n
module _ (links : List Link) (e n : ℕ) (l : e / 2 < length links) where
  abbrev links' : List Link
  links' = linked links (e / 2) (letter_at e) n

  at_same : at links' (e / 2) ≡ aimed (letter_at e) n (at links (e / 2))
  at_same = get_or-set_same links (e / 2) (aimed (letter_at e) n (at links (e / 2))) (empty 0 T) l

  at_other : (r : ℕ) → (r ≡ e / 2 → ⊥) → at links' r ≡ at links r
  at_other r q = get_or-set_other links (e / 2) r (aimed (letter_at e) n (at links (e / 2))) (empty 0 T) q

  pub aim_linked : aim_at links' e ≡ n
  aim_linked = ap (aim (letter_at e)) at_same ∙ aim_same (letter_at e) n (at links (e / 2))

  pub aim_unlinked : (d : ℕ) → (d ≡ e → ⊥) → aim_at links' d ≡ aim_at links d
  aim_unlinked d q = elim (cases_eq (d / 2) (e / 2)) [
    | inl k ↦
        ap (λ r. aim (letter_at d) (at links' r)) k ∙ ap (aim (letter_at d)) at_same
        ∙ aim_other (letter_at e) (letter_at d) n (at links (e / 2)) (λ g. q (sym (edge_of d) ∙ (λ i. edge (k i) (g i)) ∙ edge_of e))
        ∙ ap (λ r. aim (letter_at d) (at links r)) (sym k)
    | inr k ↦ ap (aim (letter_at d)) (at_other (d / 2) k)
  ]

  pub named_linked : (r : ℕ) → named links' r ≡ named links r
  named_linked r = elim (cases_eq r (e / 2)) [
    | inl k ↦ ap (named links') k ∙ ap (λ l. edge l.parent l.letter) at_same ∙ names_same (letter_at e) n (at links (e / 2)) ∙ ap (named links) (sym k)
    | inr k ↦ ap (λ l. edge l.parent l.letter) (at_other r k)
  ]

-- row n gets the link v
module _ (links : List Link) (n : ℕ) (v : Link) where
  pub aim_written : (e : ℕ) → n < length links → e / 2 ≡ n → aim_at (set links n v) e ≡ aim (letter_at e) v
  aim_written e l q = ap (λ r. aim (letter_at e) (at (set links n v) r)) q ∙ ap (aim (letter_at e)) (get_or-set_same links n v (empty 0 T) l)

  pub aim_unwritten : (e : ℕ) → (e / 2 ≡ n → ⊥) → aim_at (set links n v) e ≡ aim_at links e
  aim_unwritten e q = ap (aim (letter_at e)) (get_or-set_other links n (e / 2) v (empty 0 T) q)

  pub named_written : n < length links → named (set links n v) n ≡ edge v.parent v.letter
  named_written l = ap (λ l. edge l.parent l.letter) (get_or-set_same links n v (empty 0 T) l)

  pub named_unwritten : (r : ℕ) → (r ≡ n → ⊥) → named (set links n v) r ≡ named links r
  named_unwritten r q = ap (λ l. edge l.parent l.letter) (get_or-set_other links n r v (empty 0 T) q)

pub aim_empty : (g : Letter) (r : ℕ) (k : Letter) → aim g (empty r k) ≡ 65535
aim_empty T r k = refl
aim_empty S r k = refl

module _ {R : Type 0} (agrees : R → R → Bool) where
  -- the row that a search finds agrees
  pub sought_agrees : (qs : List R) (p d : R) → sought agrees qs p < length qs → agrees (get_or qs (sought agrees qs p) d) p ≡ true
  sought_agrees [] p d l = absurd (omega arith)
  sought_agrees (q ∷ qs) p d l = by (sought_agrees qs p d) (agrees q p) refl l
    where
      by : (sought agrees qs p < length qs → agrees (get_or qs (sought agrees qs p) d) p ≡ true)
          → (b : Bool) → agrees q p ≡ b → (elim b [ true ↦ 0 | false ↦ suc (sought agrees qs p) ]) < suc (length qs)
          → agrees (get_or (q ∷ qs) (elim b [ true ↦ 0 | false ↦ suc (sought agrees qs p) ]) d) p ≡ true
      by below true e l = e
      by below false e l = below (omega arith)

  -- and no lower one does
  pub sought_first : (qs : List R) (p d : R) (i : ℕ) → i < sought agrees qs p → i < length qs → agrees (get_or qs i d) p ≡ false
  sought_first [] p d i l k = absurd (omega arith)
  sought_first (q ∷ qs) p d i l k = by (sought_first qs p d) (agrees q p) refl i l k
    where
      by : ((i : ℕ) → i < sought agrees qs p → i < length qs → agrees (get_or qs i d) p ≡ false)
          → (b : Bool) → agrees q p ≡ b → (i : ℕ) → i < (elim b [ true ↦ 0 | false ↦ suc (sought agrees qs p) ])
          → i < suc (length qs) → agrees (get_or (q ∷ qs) i d) p ≡ false
      by below true e i l k = absurd (omega arith)
      by below false e zero l k = e
      by below false e (suc i) l k = below i (omega arith) (omega arith)
