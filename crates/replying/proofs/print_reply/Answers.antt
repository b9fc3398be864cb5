-- The reply that was printed is accepted.
use Rattle.std.proofs.Common.{Ok, ap, ◌∙◌, subst}
use Rattle.replying.proofs.print_reply.Goals as goal

pub returns-in-Accepted : goal.returns-in-Accepted
returns-in-Accepted g c =
    (_, _, _, subst (g.F.FnOnce.post c.args.reply_to (c.alloc.result, (c.as_slice.result, tt))) (c.in_ok-reply.was ∙ ap Ok c.in-Accepted.is) c.reply_to.ensures)
