-- A row from 1 on has one letter more than its parent.
use Rattle.std.proofs.Common.{◌≡◌, ◌+◌, ◌-◌, length, ap, arith}
use Rattle.table.specs.Acting.{spelled}
use Rattle.table.proofs.Spelt.{spelled_on}
use Rattle.table.proofs.links.Links.word_length.Goals as goal

pub loop-n-preserved : goal.loop-n-preserved
loop-n-preserved c =
    let links = c.args.self.links.now in
    let e : c.args.row - c.loop-n.n - 1 ≡ c.args.row - (c.loop-n.n + 1) = omega arith in
    let s = spelled_on links (c.args.row - c.loop-n.n) c.loop-n.q (omega (arith, c.from-n-end.ensures, c.loop-n-test.true)) c.if-q-eq0.false in
    omega (
      arith,
      s,
      c.loop-n.invariant,
      ap (λ l. length (spelled links (c.args.row - (c.loop-n.n + 1)) l.parent)) c.at-q.ensures,
      ap (λ k. length (spelled links k c.at-q.result.parent)) e,
      ap (λ l. length (spelled links (c.args.row - c.loop-n.n - 1) l.parent)) c.at-q.ensures,
    )
