-- Each turn passes one line, and the first faulty one ends it.
use Rattle.std.proofs.Common.{[], ◌∷◌, map, vec_items, sym, refl, ap, ◌∙◌, subst, zero-add, arith}
use Rattle.std.proofs.lemmas.List.{length-map, map-append}
use Rattle.std.proofs.lemmas.Slice.{pushed}
use Rattle.std.proofs.lemmas.Result.{MatchResult-at_ok}
use Rattle.modular.specs.Matrix.{entries}
use Rattle.jobs.specs.Format.{MatrixLine}
use Rattle.jobs.specs.Jobs.{Passed}
use Rattle.jobs.proofs.Passing.{line_ok, passed_more}
use Rattle.jobs.proofs.read.matrix_lines.Goals as goal

pub loop-rest-preserved : goal.loop-rest-preserved
loop-rest-preserved c =
    let l = MatchResult-at_ok _ _ _ (line_ok _ c.matrix_line.result _ (sym c.on_line.ensures ∙ c.in_ok-m.was)) c.matrix_line.ensures in
    let n = c.len-before.ensures ∙ c.loop-rest.list.ok.0 ∙ sym (length-map (vec_items c.loop-rest.list) entries) in
    let items = pushed (c.in_ok-m.m ∷ []) refl c.in_ok-push.was c.push.ensures.items in
    let ms = ap (map entries) items ∙ map-append entries (vec_items c.loop-rest.list) (c.in_ok-m.m ∷ []) in (
      subst (λ xs. Passed 0 c.args.text.now xs c.in_ok-m.past.now) (sym ms)
          (passed_more 0 c.args.text.now _ c.loop-rest.rest.now _ _ c.loop-rest.invariant.0
          (subst (λ k. MatrixLine k c.loop-rest.rest.now (entries c.in_ok-m.m) c.in_ok-m.past.now) (n ∙ sym (zero-add _)) l)),
      omega (arith, c.in_ok-push.ensures.len, l.range.few, c.len-before.ensures),
    )
