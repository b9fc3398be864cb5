-- The generator with a number, by the outcome of its tests.
use Rattle.std.proofs.Common.{◌≡◌, ℕ, ◌+◌, ◌<◌, ◌≤◌, Bool, true, false, ◌&&◌, leb, ltb, List, length, ℤ, Some, None, Ok, Err, MatchOption, Option, sym, refl, ap, ◌∙◌, subst, arith}
use Rattle.std.specs.Option.{SomeIff, ok_or}
use Rattle.std.proofs.lemmas.Bool.{false≢true, lt-ltb, le-ltb}
use lib.ListN.{length-map}
use Rattle.modular.specs.Matrix.{M2, rows}
use Rattle.table.specs.declared.link.Link.{Link}
use Rattle.table.specs.declared.refusal.Refusal.{Refusal}
use Rattle.table.specs.declared.refusal.Refusal.TheVariants.{NoSuch, Range, Wide}
use Rattle.table.specs.Generators.{generator_at, other_edges}
use Rattle.table.specs.Questions.{edge_of, narrow, generate_by, generating, in_rows}
use Rattle.table.specs.SoundTest.{sound}
use Rattle.table.proofs.Counted.{generators_count}
use Rattle.table.proofs.SoundTested.{sound_tells}

-- what is sought and found, or is not
pub found : {A : Type 0} (o : Option A) (e : Refusal) (P : Type 0) (Q : A → Type 0) (x : A) → MatchOption o P Q → ok_or o e ≡ Ok x → Q x
found None e P Q x h k = cc
found (Some y) e P Q x h k = let z : y ≡ x = cc in subst Q z h

pub not_found : {A : Type 0} (o : Option A) (e : Refusal) (P : Type 0) (Q : A → Type 0) (x : Refusal) → MatchOption o P Q → ok_or o e ≡ Err x → P × (x ≡ e)
not_found None e P Q x h k = (h, (cc))
not_found (Some y) e P Q x h k = cc

-- a matrix that is not given has a wide entry
pub given : (o : Option (List (List ℤ))) (b : Bool) (x : M2) → SomeIff o (b ≡ true) (rows x) → ok_or o Wide ≡ in_rows (generate_by true true b x)
given None true x h = absurd (h refl)
given None false x h = refl
given (Some y) true x h = ap Ok h.1
given (Some y) false x h = absurd (false≢true h.0)

module _ (links : List Link) (k limit : ℕ) where
  -- past the generators there is none
  pub none_there : length links < k → generating links k limit ≡ Err NoSuch
  none_there h = ap (λ b. generate_by b (ltb 0 limit && leb limit 1000000000) (narrow links limit (edge_of links k)) (generator_at links (edge_of links k))) (le-ltb k (length links + 1) (omega arith))

  pub no_limit : k ≤ length links → (ltb 0 limit && leb limit 1000000000) ≡ false → generating links k limit ≡ Err Range
  no_limit h e = λ i. generate_by (lt-ltb k (length links + 1) (omega arith) i) (e i) (narrow links limit (edge_of links k)) (generator_at links (edge_of links k))

  pub by_entries : k ≤ length links → (ltb 0 limit && leb limit 1000000000) ≡ true
      → generating links k limit ≡ generate_by true true (narrow links limit (edge_of links k)) (generator_at links (edge_of links k))
  by_entries h e = λ i. generate_by (lt-ltb k (length links + 1) (omega arith) i) (e i) (narrow links limit (edge_of links k)) (generator_at links (edge_of links k))

-- sound links have one edge more that is no tree edge than rows
pub others : (links : List Link) → sound links ≡ true → length (other_edges links) ≡ length links + 1
others links good = sym (length-map (other_edges links) (generator_at links)) ∙ generators_count links ((sound_tells links).0 good)
