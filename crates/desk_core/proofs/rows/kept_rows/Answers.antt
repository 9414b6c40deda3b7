use Rattle.std.proofs.Common.{◌≡◌, ◌<◌, ℕ, ℤ, List, ◌++◌, ◌∷◌, [], false, length, get_or, slice_index, slice_index_or, Option, Some, None, pos, refl, sym, ap, ◌∙◌, arith, rules, w64}
use Rattle.std.proofs.lemmas.Int.{to_z-of_z}
use Rattle.std.proofs.lemmas.Bool.{cond-true, cond-false}
use Rattle.std.proofs.lemmas.List.{get_or_default}
use Rattle.graph_model.specs.Projection.{missing_value}
use Rattle.desk_core.specs.Rows.{kept_row, kept_below}
use Rattle.desk_core.proofs.RowLemmas.{row-pushed, row-missing}
use Rattle.desk_core.proofs.KeptRows.{kept-next, below-later, below-with}
use Rattle.desk_core.proofs.rows.kept_rows.Goals as goal
use Rattle.desk_core.proofs.rows.kept_rows.Goals.{then-kept-v+in_ok-column, else-kept-v}

pub loop-v-preserved : goal.loop-v-preserved
loop-v-preserved c =
    let ids = c.args.ids.now in
    let kept = c.args.kept.now in
    let values = c.args.values.now in
    let v = c.loop-v.v in
    let next = kept-next ids kept values v in
    let row : Option (ℕ × ℤ) = kept_row ids kept values v in
    let rows : List (ℕ × ℤ) = kept_below ids kept values v in
    elim c.if-kept-v.branch [
      | then-kept-v+in_ok-column w ↦
          let id : ℕ = slice_index ids v in
          let value : ℤ = slice_index_or values v missing_value in
          let ids_are : w.in_ok-column.column.ids ≡ c.loop-v.column.ids ++ id ∷ [] = w.in_ok-column.ensures.ids in
          let values_are : w.in_ok-column.column.values ≡ c.loop-v.column.values ++ value ∷ [] = w.in_ok-column.ensures.values ∙ ap (λ (x : ℤ). c.loop-v.column.values ++ x ∷ []) (to_z-of_z w64 (get_or values v (pos 0)) (search rules) ∙ get_or_default values v (pos 0) missing_value (omega (arith, c.loop-v-test.true))) in
          let is : row ≡ Some (id, value) = cond-true (slice_index_or kept v false) (Some (id, value)) None w.if-kept-v.true in
          rw w.column-is (record {
            rows = row-pushed c.loop-v.column.ids w.in_ok-column.column.ids c.loop-v.column.values w.in_ok-column.column.values rows id value row c.loop-v.column.paired ids_are values_are c.loop-v.invariant.rows is ∙ sym next;
            below = λ within. rw ids_are (below-with ids c.loop-v.column.ids v id c.requires.ascend within refl (c.loop-v.invariant.below (omega arith)));
          })
      | else-kept-v w ↦
          let none : row ≡ None = cond-false (slice_index_or kept v false) (Some (slice_index ids v, slice_index_or values v missing_value)) None w.if-kept-v.false in
          rw w.column-is (record {
            rows = c.loop-v.invariant.rows ∙ row-missing rows row none ∙ sym next;
            below = λ within. below-later ids c.loop-v.column.ids v c.requires.ascend within (c.loop-v.invariant.below (omega arith));
          })
    ]
