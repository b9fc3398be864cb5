-- The record is where the letters so far lead.
use Rattle.std.proofs.Common.{◌≡◌, take}
use Rattle.modular.specs.Actions.{lead}
use Rattle.modular.proofs.acting.lead_from.Given as goal

abbrev pub invariant-loop-letter : goal.invariant-loop-letter
invariant-loop-letter g l =
    l.p ≡ lead (g.A.Action.step_t l.action) (g.A.Action.step_s l.action) (take l.letter-index l.word) l.initial.p
