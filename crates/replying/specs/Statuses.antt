-- When a program that replies to a job succeeds.
--     AcceptedBy P      some text has an accepted reply of which P holds
use Rattle.std.specs.Prelude.{ℕ, List, Ok, Result}
use Rattle.std.specs.declared.alloc.AllocError.{AllocError}
use Rattle.std.specs.declared.alloc.Global.{Global}
use denote.Bor.{Bor}
use Rattle.jobs.specs.declared.reply.Reply.{Reply}
use Rattle.jobs.specs.declared.reply.Reply.TheVariants.{Accepted}

abbrev pub AcceptedBy : (Global → Bor (List ℕ) → Result Reply AllocError → Type 0) → Type 0
AcceptedBy P = (heap : Global) × (text : Bor (List ℕ)) × (s : _) × P heap text (Ok (Accepted s))
