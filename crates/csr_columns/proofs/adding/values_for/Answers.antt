use Rattle.std.proofs.Common.{◌<◌, ◌≤◌, ◌∷◌, [], ◌++◌, ℤ, List, w64, get_or, sym, ◌∙◌, ap, ⊎_elim, to_z-of_z, arith, rules}
use Rattle.std.proofs.lemmas.Bool.{cases_lt}
use Rattle.std.proofs.lemmas.List.{map_more}
use Rattle.graph_model.specs.Projection.{value_for}
use Rattle.csr_columns.proofs.Increasing.{increasing-less}
use Rattle.csr_columns.proofs.adding.values_for.Goals as goal

pub loop-id-preserved : goal.loop-id-preserved
loop-id-preserved c =
    let ids = c.args.ids.now in
    let i = c.loop-id.id-index in
    let told = rw (c.as_slice-known.ensures.value, c.as_slice.ensures.value) at c.value_beside.ensures in
    let same = to_z-of_z {w = w64} {z = c.value_beside.result} (search rules) in
    let passed_now = rw c.as_slice-known.ensures.value at c.skip_below-at.ensures.passed in
    record {
      values = c.in_ok-push.ensures.items
          ∙ ap (λ (x : ℤ). c.loop-id.values.items ++ x ∷ []) (same ∙ told)
          ∙ ap (λ (xs : List ℤ). xs ++ value_for c.args.column.now (get_or ids i 0) ∷ []) c.loop-id.invariant.values
          ∙ sym (map_more (value_for c.args.column.now) ids i 0 (omega arith));
      within = rw (← c.as_slice-known.ensures.value) c.skip_below-at.ensures.within;
      passed = λ k k_in j low high.
          ⊎_elim
          (λ (e : k < c.loop-id.at). c.loop-id.invariant.passed k e j (omega arith) high)
          (λ (e : c.loop-id.at ≤ k). omega (arith, passed_now k e k_in, increasing-less ids i j (omega arith) high c.requires))
          (cases_lt k c.loop-id.at);
    }
