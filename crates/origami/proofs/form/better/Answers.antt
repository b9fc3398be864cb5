use Rattle.std.proofs.Common.{◌≡◌, length, sym, ◌∙◌, rules}
use Rattle.std.proofs.lemmas.Bool.{cond-true, cond-false}
use Rattle.origami.specs.Forms.{earlier}
use Rattle.origami.proofs.Lexical.{lt_is_earlier}
use Rattle.origami.proofs.form.better.Goals as goal

pub returns-then-lt : goal.returns-then-lt
returns-then-lt c =
    let a = c.args.a in
    let b = c.args.b in
    let l : length a.right ≡ length b.right = search rules in
    sym (cond-true (earlier a b) a b (sym (lt_is_earlier a b c.lt.result c.requires l c.lt.ensures) ∙ c.if-lt.true))

pub returns-else-lt : goal.returns-else-lt
returns-else-lt c =
    let a = c.args.a in
    let b = c.args.b in
    let l : length a.right ≡ length b.right = search rules in
    sym (cond-false (earlier a b) a b (sym (lt_is_earlier a b c.lt.result c.requires l c.lt.ensures) ∙ c.if-lt.false))
