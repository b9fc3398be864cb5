use Rattle.std.proofs.Common.{◌<◌, None, get_or, replicate, refl, arith}
use Rattle.std.proofs.lemmas.List.{get_or-replicate}
use Rattle.origami.proofs.Marks.{holds_first}
use Rattle.origami.proofs.Visits.{squares, held_below, room_right, room_up, visit}
use Rattle.origami.proofs.numbering.Numbering.new.Goals as goal

pub loop-i-init : goal.loop-i-init
loop-i-init c = let x = c.args.first in
    holds_first x (replicate 16 x) (replicate 16 None) (omega arith) (λ k l. get_or-replicate 16 k x 0 l) refl (λ k l. get_or-replicate 16 k None None l)

pub bounds-g-square : goal.bounds-g-square
bounds-g-square c =
    let i = c.loop-i.i in
    let l : i < 16 = omega arith in
    omega (arith, held_below c.args.squares.gluing c.args.squares.ok c.args.first c.requires i c.loop-i.n c.loop-i.invariant i l)

pub add-requires : goal.add-requires
add-requires c =
    let i = c.loop-i.i in
    let l : i < 16 = omega arith in
    room_right c.args.squares.gluing c.args.squares.ok c.args.first c.requires i (get_or c.loop-i.n.order i 0) (c.loop-i.invariant.order_is i l) c.loop-i.n c.loop-i.invariant

pub bounds-g-square-in-loop-i : goal.bounds-g-square-in-loop-i
bounds-g-square-in-loop-i c =
    let i = c.loop-i.i in
    let l : i < 16 = omega arith in
    omega (arith, held_below c.args.squares.gluing c.args.squares.ok c.args.first c.requires i c.loop-i.n c.loop-i.invariant i l)

pub add-requires-in-loop-i : goal.add-requires-in-loop-i
add-requires-in-loop-i c =
    let g = c.args.squares.gluing in
    let x = c.args.first in
    let i = c.loop-i.i in
    let l : i < 16 = omega arith in
    room_up g c.args.squares.ok x c.requires i (get_or c.loop-i.n.order i 0) (c.loop-i.invariant.order_is i l) c.add.new.self
    (c.add.ensures x (squares g x i) c.loop-i.invariant)

pub loop-i-preserved : goal.loop-i-preserved
loop-i-preserved c =
    let g = c.args.squares.gluing in
    let x = c.args.first in
    let i = c.loop-i.i in
    let l : i < 16 = omega arith in
    visit g c.args.squares.ok x c.requires i (get_or c.loop-i.n.order i 0) (c.loop-i.invariant.order_is i l) c.add-in-loop-i.new.self
    (c.add-in-loop-i.ensures x _ (c.add.ensures x (squares g x i) c.loop-i.invariant))
