-- A line with no key, or with neither yes nor no, lacks its form.
use Rattle.std.proofs.lemmas.Result.{err_from_is_err_and}
use Rattle.std.proofs.Common.{◌≡◌, ℕ, Bool, true, false, List, codes, arith}
use Rattle.jobs.specs.Format.{SaysMirror}
use Rattle.jobs.specs.Line.{form, unread}
use Rattle.jobs.proofs.lines.mirror_line.Goals as goal

pub returns-in_err-body : goal.returns-in_err-body
returns-in_err-body c =
    let p = err_from_is_err_and c.from_residual.result c.from_residual.ensures.1 in
    let f = c.in_err-body.ensures in
    rw (p.1, p.2, f.0) (form f.1)

-- a body that is neither name says nothing
no_word : (body : List ℕ) → (body ≡ codes "yes" → ⊥) → (body ≡ codes "no" → ⊥) → (b : Bool) → SaysMirror body b → ⊥
no_word body y n true e = y e
no_word body y n false e = n e

pub returns-in_default : goal.returns-in_default
returns-in_default c =
    let l = c.in_default.branch in
    unread _ _ c.in_ok-body.ensures (no_word _ (λ e. grind arith) (λ e. grind arith))
