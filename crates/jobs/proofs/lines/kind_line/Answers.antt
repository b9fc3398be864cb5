-- A line with no key, or with another kind's name, lacks its form.
use Rattle.std.proofs.lemmas.Result.{err_from_is_err_and}
use Rattle.std.proofs.Common.{◌≡◌, List, ℕ, codes, arith, rules}
use Rattle.std.proofs.lemmas.Slice.Eq.{text_from_reads}
use Rattle.jobs.specs.Format.{every, SaysKind}
use Rattle.jobs.specs.Line.{form, unread}
use Rattle.jobs.specs.declared.job.Kind.TheVariants.{Lines, Vectors, Matrices}
use Rattle.jobs.specs.declared.job.Subject.{Subject}
use Rattle.jobs.specs.declared.job.Subject.TheVariants.{Level, Origami}
use Rattle.jobs.proofs.lines.kind_line.Goals as goal

pub returns-in_err-body : goal.returns-in_err-body
returns-in_err-body c =
    let p = err_from_is_err_and c.from_residual.result c.from_residual.ensures.1 in
    let f = c.in_err-body.ensures in
    rw (p.1, p.2, f.0) (form f.1)

pub returns-in-vectors : goal.returns-in-vectors
returns-in-vectors c =
    let says = text_from_reads c.in_ok-body.body.now (codes "vectors") (omega arith) (search rules) in
    record { body = _; keyed = c.in_ok-body.ensures; says = says; range = tt; made = λ f h. h }

pub returns-in-matrices : goal.returns-in-matrices
returns-in-matrices c =
    let says = text_from_reads c.in_ok-body.body.now (codes "matrices") (omega arith) (search rules) in
    record { body = _; keyed = c.in_ok-body.ensures; says = says; range = tt; made = λ f h. h }

pub returns-in-origami : goal.returns-in-origami
returns-in-origami c =
    let says = text_from_reads c.in_ok-body.body.now (codes "origami") (omega arith) (search rules) in
    record { body = _; keyed = c.in_ok-body.ensures; says = says; range = tt; made = λ f h. h }

-- a body that is none of the names says nothing
no_name : (body : List ℕ) → (body ≡ codes "lines" → ⊥) → (body ≡ codes "vectors" → ⊥) → (body ≡ codes "matrices" → ⊥) → (body ≡ codes "origami" → ⊥) → (s : Subject) → SaysKind every body s → ⊥
no_name body l v m o (Level Lines) e = l e
no_name body l v m o (Level Vectors) e = v e
no_name body l v m o (Level Matrices) e = m e
no_name body l v m o Origami e = o e

pub returns-in_default : goal.returns-in_default
returns-in_default c =
    let l = c.in_default.branch in
    unread _ _ c.in_ok-body.ensures (no_name _ (λ e. grind arith) (λ e. grind arith) (λ e. grind arith) (λ e. grind arith))
