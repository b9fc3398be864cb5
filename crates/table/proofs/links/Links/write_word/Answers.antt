-- Each turn writes the last letter that is not written yet, and goes to the parent.
use Rattle.std.proofs.Common.{◌≡◌, ◌+◌, ◌-◌, ◌<◌, ◌++◌, length, get_or, take, drop, set, sym, ap, ◌∙◌, arith}
use Rattle.std.proofs.lemmas.List.{get_or-map, length-map}
use Rattle.modular.specs.declared.letter.Letter.TheVariants.{T}
use Rattle.table.specs.Acting.{spelled, word_of}
use Rattle.table.specs.Links.{at}
use Rattle.table.specs.Questions.{character, characters}
use Rattle.table.proofs.Spelt.{spelled_last, written_before}
use Rattle.table.proofs.links.Links.write_word.Goals as goal

pub loop-k-preserved : goal.loop-k-preserved
loop-k-preserved c =
    let links = c.args.self.links.now in
    let w = word_of links c.args.row in
    let out = c.args.out.now in
    let j = c.loop-k.k - 1 in
    let e : c.loop-k.k ≡ j + 1 = omega (arith, c.loop-k-test.true) in
    let l : j < length w = omega (arith, c.requires, c.loop-k.auto.k, c.loop-k-test.true) in
    let f : c.args.row - (length out - c.loop-k.k) - 1 ≡ c.args.row - (length out - j) = omega (arith, c.loop-k.auto.k, c.loop-k-test.true) in
    let s = spelled_last links (c.args.row - (length out - c.loop-k.k)) c.loop-k.q j w l (c.loop-k.invariant.0 ∙ ap (λ i. take i w) e) in
    let x : get_or (characters w) j 0 ≡ c.from.result = get_or-map character w j T 0 l ∙ ap character (sym s.1 ∙ ap (λ r. r.letter) (sym c.at-reached.ensures)) ∙ sym c.from.ensures in (
      ap (λ r. spelled links (c.args.row - (length out - j)) r.parent) c.at-reached.ensures ∙ sym (ap (λ i. spelled links i (at links c.loop-k.q).parent) f) ∙ s.0,
      ap (λ o. set o j c.from.result) (c.loop-k.invariant.1 ∙ ap (λ i. take i out ++ drop i (characters w)) e)
          ∙ written_before out (characters w) j c.from.result (omega (arith, c.requires, c.loop-k.auto.k, c.loop-k-test.true)) (omega (arith, l, length-map w character)) x,
    )
