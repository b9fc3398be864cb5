use Rattle.std.proofs.Common.{◌≡◌, length, rules}
use Rattle.origami.proofs.Marks.{none_is, holds_new}
use Rattle.origami.proofs.numbering.Numbering.add.Goals as goal

pub returns-then-is_none : goal.returns-then-is_none
returns-then-is_none c =
    let n = c.args.self.now in
    let os : length n.order ≡ 16 = search rules in
    let ns : length n.number ≡ 16 = search rules in
    λ x xs h. holds_new x xs n h c.args.square c.requires.0 (none_is _ c.if-is_none.ensures) (c.requires.1 (none_is _ c.if-is_none.ensures)) os ns
