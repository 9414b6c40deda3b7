use Rattle.std.proofs.Common.{◌≡◌, ℕ, ℤ, List, ◌++◌, ◌<◌, ◌+◌, ◌∷◌, [], Option, Some, None, refl, sym, ap, ◌∙◌, arith, rules, w64}
use Rattle.std.proofs.lemmas.Int.{to_z-of_z}
use Rattle.std.specs.List.{AllByRecursion, cons_option, filter_map, zip}
use Rattle.graph_model.specs.ById.{nodes_below}
use Rattle.desk_model.specs.Step.{chosen_row}
use Rattle.desk_core.specs.Rows.{row_at}
use Rattle.desk_core.proofs.RowLemmas.{of_value, row_at-of_value, rows-next, row-pushed, row-missing, below-push, below-next}
use Rattle.desk_core.proofs.rows.stored_rows.Goals as goal
use Rattle.desk_core.proofs.rows.stored_rows.Goals.{in-Some+in_ok-column, in_default}

pub loop-id-preserved : goal.loop-id-preserved
loop-id-preserved c =
    let key = c.args.key.now in
    let labels = c.args.labels.now in
    let g = c.args.store.now in
    let id = c.loop-id.id in
    let come = (c.elements_come_by_id.ensures g c.next_node-id-end.ensures.valid).0 in
    let next = rows-next key labels g id come in
    let row = row_at-of_value key labels g id c.chosen_value.result c.chosen_value.ensures in
    let rows : List (ℕ × ℤ) = filter_map (chosen_row key labels) (nodes_below id g) in
    elim c.match-chosen_value.branch [
      | in-Some+in_ok-column w ↦
          let is : row_at key labels g id ≡ Some (id, w.in-Some.value) = row ∙ ap (of_value id) w.in-Some.is in
          let values_are : w.in_ok-column.column.values ≡ c.loop-id.column.values ++ w.in-Some.value ∷ [] =
          w.in_ok-column.ensures.values ∙ ap (λ (v : ℤ). c.loop-id.column.values ++ v ∷ []) (to_z-of_z w64 w.in-Some.value (search rules)) in
          rw w.column-is (record {
            rows = row-pushed c.loop-id.column.ids w.in_ok-column.column.ids c.loop-id.column.values w.in_ok-column.column.values rows id w.in-Some.value (row_at key labels g id) c.loop-id.column.paired w.in_ok-column.ensures.ids values_are c.loop-id.invariant.rows is ∙ sym next;
            below = rw w.in_ok-column.ensures.ids (below-push c.loop-id.column.ids id c.loop-id.invariant.below);
          })
      | in_default w ↦
          let none : row_at key labels g id ≡ None = row ∙ ap (of_value id) w.in_default.is in
          rw w.column-is (record {
            rows = c.loop-id.invariant.rows ∙ row-missing rows (row_at key labels g id) none ∙ sym next;
            below = below-next c.loop-id.column.ids id c.loop-id.invariant.below;
          })
    ]

pub returns : goal.returns
returns c =
    let ended : c.loop-id.id ≡ c.args.store.now.next_node = omega arith in
    c.loop-id.invariant.rows
    ∙ ap (λ id. filter_map (chosen_row c.args.key.now c.args.labels.now) (nodes_below id c.args.store.now)) ended
    ∙ ap (filter_map (chosen_row c.args.key.now c.args.labels.now)) (c.elements_come_by_id.ensures c.args.store.now c.next_node-id-end.ensures.valid).0.last
