-- The number that is printed is the refusal's.
use Rattle.std.proofs.Common.{◌≡◌, ℕ, [], ◌∷◌, ◌++◌, codes, decimal, sym, ap, ◌∙◌, append_assoc}
use Rattle.jobs.specs.Replies.{refused_line}
use Rattle.answers.proofs.reply.unlisted.Goals as goal

-- the line in two cuts
joined : (n k : ℕ) → codes "refused=" ++ (decimal n ++ 44 ∷ (decimal k ++ 10 ∷ [])) ≡ refused_line n k
joined n k = ap (λ l. codes "refused=" ++ l) (sym (append_assoc (decimal n) (44 ∷ decimal k) (10 ∷ [])))

pub returns-in_ok-format-in-Declined : goal.returns-in_ok-format-in-Declined
returns-in_ok-format-in-Declined c =
    rw c.in-Declined.is (c.in_ok-format-in-Declined.ensures.ok ∙ joined c.number-number.result c.place-place.result ∙ (λ i. refused_line (c.number-number.ensures i) (c.place-place.ensures i)))
