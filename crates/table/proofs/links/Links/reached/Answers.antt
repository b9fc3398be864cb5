-- A row that is not fair ends the pass, and a fair one leads on with the rows that its edges reach.
use Rattle.std.proofs.Common.{◌≡◌, ℕ, suc, ◌+◌, ◌-◌, ◌*◌, ◌<◌, true, false, ◌&&◌, List, length, sym, ap, ◌∙◌, arith}
use Rattle.table.specs.declared.link.Link.{Link}
use Rattle.table.specs.SoundTest.{counted, fair, swept}
use Rattle.table.proofs.links.Links.reached.Goals as goal

module _ (links : List Link) (r c : ℕ) (h : r < length links) where
  -- the pass from row r on, where c rows are reached before it
  abbrev here : Type 0
  here = swept links (length links - r) r c ≡ (fair links r c && swept links (length links - (r + 1)) (r + 1) (counted links (2 * r + 1) (counted links (2 * r) c)))

  swept_here : here
  swept_here = let left : length links - r ≡ suc (length links - (r + 1)) = omega arith in ap (λ k. swept links k r c) left

  swept_no : fair links r c ≡ false → swept links (length links - r) r c ≡ false
  swept_no e = swept_here ∙ ap (λ b. b && swept links (length links - (r + 1)) (r + 1) (counted links (2 * r + 1) (counted links (2 * r) c))) e

  swept_on : (n : ℕ) → fair links r c ≡ true → n ≡ counted links (2 * r + 1) (counted links (2 * r) c)
      → swept links (length links - r) r c ≡ swept links (length links - (r + 1)) (r + 1) n
  swept_on n e d =
      swept_here ∙ ap (λ b. b && swept links (length links - (r + 1)) (r + 1) (counted links (2 * r + 1) (counted links (2 * r) c))) e
      ∙ sym (ap (swept links (length links - (r + 1)) (r + 1)) d)

pub returns-in_err-reached : goal.returns-in_err-reached
returns-in_err-reached c =
    let links = c.args.self.links.now in
    rw c.from_residual.ensures (sym c.loop-row.invariant ∙ swept_no links c.loop-row.row c.loop-row.reached (omega arith) c.in_err-reached.ensures)

pub loop-row-preserved : goal.loop-row-preserved
loop-row-preserved c =
    let told = c.in_ok-reached.ensures in
    sym (swept_on c.args.self.links.now c.loop-row.row c.loop-row.reached (omega arith) c.in_ok-reached.reached told.0 told.1) ∙ c.loop-row.invariant
