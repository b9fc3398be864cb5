-- Each turn walks one letter, and the first that cannot be walked ends it.
use Rattle.std.proofs.Common.{◌≡◌, ℕ, List, [], length, Err, sym, ap, ◌∙◌, rules}
use Rattle.std.specs.Iterator.Adapters.{enumerate_count, enumerate_source}
use Rattle.std.specs.Str.Iter.{chars_rest}
use Rattle.std.specs.Str.{chars}
use Rattle.std.proofs.lemmas.List.{nil_from_length}
use Rattle.std.proofs.lemmas.Str.{chars_past_char, IsUtf8-past_char, chars-nil}
use Rattle.table.specs.declared.refusal.Refusal.TheVariants.{NotALetter, EmptyEdge}
use Rattle.table.specs.Growing.{walk_from, leads_to}
use Rattle.table.proofs.Walks.{walk_none, walk_empty, walk_on}
use Rattle.table.proofs.links.Links.letters.Goals as goal

pub returns-in_default : goal.returns-in_default
returns-in_default c =
    let links = c.args.self.links.now in
    let k = enumerate_count c.loop-place.place-iterator in
    let rest = chars_rest (enumerate_source c.next.new.self) in
    let d = chars_past_char (chars_rest (enumerate_source c.loop-place.place-iterator)) rest c.in-Some.c c.loop-place.invariant.utf8 c.in-Some.ensures.steps.0.0 in
    ap (λ n. Err (NotALetter n)) c.in-Some.ensures.steps.1
    ∙ sym (
    c.loop-place.invariant.left
    ∙ ap (λ w. walk_from c.args.count links w k c.loop-place.row) d
    ∙ walk_none c.args.count links c.in-Some.c (chars rest) k c.loop-place.row c.in_default.ensures.0
    )

pub returns-in_default-leads_to : goal.returns-in_default-leads_to
returns-in_default-leads_to c =
    let links = c.args.self.links.now in
    let k = enumerate_count c.loop-place.place-iterator in
    let rest = chars_rest (enumerate_source c.next.new.self) in
    let d = chars_past_char (chars_rest (enumerate_source c.loop-place.place-iterator)) rest c.in-Some.c c.loop-place.invariant.utf8 c.in-Some.ensures.steps.0.0 in
    ap (λ n. Err (EmptyEdge n)) c.in-Some.ensures.steps.1
    ∙ sym (
    c.loop-place.invariant.left
    ∙ ap (λ w. walk_from c.args.count links w k c.loop-place.row) d
    ∙ walk_empty c.args.count links c.in-Some.c (chars rest) k c.loop-place.row c.in-Ok.letter c.in-Ok.ensures
    (ap (leads_to c.args.count c.in-Ok.letter) (sym c.at.ensures) ∙ sym c.leads_to.ensures ∙ c.in_default-leads_to.is)
    )

pub loop-place-preserved : goal.loop-place-preserved
loop-place-preserved c =
    let links = c.args.self.links.now in
    let k = enumerate_count c.loop-place.place-iterator in
    let row = c.in-Some-leads_to.next in
    let bs = chars_rest (enumerate_source c.loop-place.place-iterator) in
    let rest = chars_rest (enumerate_source c.next.new.self) in
    let s = c.in-Some.ensures.steps in
    let d = chars_past_char bs rest c.in-Some.c c.loop-place.invariant.utf8 s.0.0 in
    record {
      can = search rules;
      finite = search rules;
      left = c.loop-place.invariant.left
          ∙ ap (λ w. walk_from c.args.count links w k c.loop-place.row) d
          ∙ walk_on c.args.count links c.in-Some.c (chars rest) k c.loop-place.row c.in-Ok.letter row c.in-Ok.ensures
          (ap (leads_to c.args.count c.in-Ok.letter) (sym c.at.ensures) ∙ sym c.leads_to.ensures ∙ c.in-Some-leads_to.is)
          ∙ ap (λ n. walk_from c.args.count links (chars rest) n row) (sym s.2);
      utf8 = IsUtf8-past_char bs rest c.in-Some.c c.loop-place.invariant.utf8 s.0.0;
    }

-- no bytes are left, and so no letters
none_left : (bs : List ℕ) → length bs ≡ 0 → chars bs ≡ []
none_left bs e = ap chars (nil_from_length bs e) ∙ chars-nil

pub returns : goal.returns
returns c =
    sym (
    c.loop-place.invariant.left
    ∙ ap (λ w. walk_from c.args.count c.args.self.links.now w (enumerate_count c.loop-place.place-iterator) c.loop-place.row) (none_left (chars_rest (enumerate_source c.loop-place.place-iterator)) c.in-None.ensures.steps.0.0.0)
    )
