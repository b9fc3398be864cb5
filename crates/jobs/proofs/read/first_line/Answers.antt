-- A text is not too long, and its first line passes.
use Rattle.std.proofs.Common.{◌≤◌, List, ℕ, length, Ok, Err, Result, MatchResult}
use Rattle.jobs.specs.Format.{every, KindFault}
use Rattle.jobs.specs.Jobs.{too_long, in_kind, FirstFault, FirstLevelFault, on_line}
use Rattle.jobs.specs.declared.fault.Fault.{Fault}
use Rattle.jobs.proofs.Alone.{level_kind_fault}
use Rattle.jobs.proofs.read.first_line.Goals as goal

pub returns-then-text-gt-LONGEST : goal.returns-then-text-gt-LONGEST
returns-then-text-gt-LONGEST c = (too_long c.if-text-gt-LONGEST.true, too_long c.if-text-gt-LONGEST.true)

-- the first line decides, whatever it can name
opened : {T : Type 0} (P : T → Type 0) (text : List ℕ) (r : Result T Fault) → length text ≤ 4096 → MatchResult r P (KindFault every text)
    → MatchResult (on_line 1 r) (λ p. (length text ≤ 4096) × P p) (λ r. FirstFault text r.fault r.line × FirstLevelFault text r.fault r.line)
opened P text (Ok x) s h = (s, h)
opened P text (Err f) s h = (in_kind f s h, in_kind f s (level_kind_fault text f h))

pub returns : goal.returns
returns c = rw c.on_line.ensures (opened _ c.args.text.now _ c.if-text-gt-LONGEST.false c.kind_line.ensures)
