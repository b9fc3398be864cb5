-- The word of a row: how long it is, what it is spelled with, and that it has room.
use Rattle.std.proofs.Common.{◌≡◌, ℕ, zero, suc, ◌-◌, ◌<◌, ◌≤◌, Bool, true, false, eqb, List, [], ◌∷◌, ◌++◌, length, take, drop, is_ok, Ok, Err, IsAscii, Result, sym, refl, ap, ◌∙◌, arith, MatchResult}
use lib.ListN.{length-map}
use Rattle.std.proofs.lemmas.Str.Ascii.{IsAscii-nil, IsAscii-cons}
use Rattle.std.proofs.lemmas.List.{length_push, take_at}
use Rattle.std.proofs.lemmas.Bool.{lt-ltb, le-leb}
use Rattle.modular.specs.declared.letter.Letter.{Letter}
use Rattle.modular.specs.declared.letter.Letter.TheVariants.{T, S}
use Rattle.table.specs.declared.link.Link.{Link}
use Rattle.table.specs.declared.refusal.Refusal.{Refusal}
use Rattle.table.specs.Acting.{spelled, word_of}
use Rattle.table.specs.Links.{at}
use Rattle.table.specs.Questions.{character, characters, spelling, spell_by}

-- where no refusal is left, there is an answer
pub ok_from_cases : {X Y : Type 0} (r : Result X Y) (P : X → Type 0) (Q : Y → Type 0) → MatchResult r P Q → ((y : Y) → Q y → ⊥) → is_ok r ≡ true
ok_from_cases (Ok x) P Q h n = refl
ok_from_cases (Err y) P Q h n = absurd (n y h)

-- letters are written by characters below 128
pub ascii_word : (w : List Letter) → IsAscii (characters w)
ascii_word [] = IsAscii-nil
ascii_word (T ∷ w) = IsAscii-cons 84 (characters w) (omega arith) (ascii_word w)
ascii_word (S ∷ w) = IsAscii-cons 83 (characters w) (omega arith) (ascii_word w)

module _ (links : List Link) where
  -- a word through at most n parents has at most n letters
  short : (n r : ℕ) → length (spelled links n r) ≤ n
  short zero r = omega arith
  short (suc n) r =
      let on : List Letter = spelled links n (at links r).parent in
      let step : (b : Bool) → length (elim b as (λ _. List Letter) [ true ↦ [] | false ↦ on ++ (at links r).letter ∷ [] ]) ≤ suc n =
      λ b. elim b as (λ v. length (elim v as (λ _. List Letter) [ true ↦ [] | false ↦ on ++ (at links r).letter ∷ [] ]) ≤ suc n) [
        | true ↦ omega arith
        | false ↦ omega (arith, length_push on (at links r).letter, short n (at links r).parent)
      ] in
      step (eqb r 0)

  pub word_length : (r : ℕ) → length (characters (word_of links r)) ≤ r
  word_length r = omega (arith, length-map (word_of links r) character, short r r)

  module _ (r : ℕ) (out : List ℕ) (there : r < length links) (room : r ≤ length out) where
    abbrev word : List ℕ
    word = characters (word_of links r)

    spells : spelling links r out ≡ spell_by true true word out
    spells = λ i. spell_by (lt-ltb r (length links) there i) (le-leb (length word) (length out) (omega (arith, word_length r)) i) word out

    pub spell_ok : (a : Result ℕ Refusal) → a ≡ (spelling links r out).answer → is_ok a ≡ true
    spell_ok a e = ap is_ok (e ∙ ap (λ s. s.answer) spells)

    -- as many bytes as are answered are the word
    pub spell_word : (a : Result ℕ Refusal) (count : ℕ) (after : List ℕ) → a ≡ (spelling links r out).answer → a ≡ Ok count → after ≡ (spelling links r out).out
        → take (count - 0) after ≡ word
    spell_word a count after e o p =
        let said : Ok count ≡ Ok (length word) = sym o ∙ e ∙ ap (λ s. s.answer) spells in
        let n : count ≡ length word = cc in
        let list : after ≡ word ++ drop (length word) out = p ∙ ap (λ s. s.out) spells in
        ap (take (count - 0)) list ∙ take_at word (drop (length word) out) (count - 0) (omega arith)
