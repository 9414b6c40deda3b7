use Rattle.std.proofs.Common.{rules, ℕ, ℤ, List, pos, Some, slice_index, slice_index_or, w64, to_z-of_z, sym, ap, ◌∙◌}
use Rattle.graph_model.specs.declared.refusal.Refusal.TheVariants.{WeightOutOfRange}
use Rattle.csr_columns.specs.Rows.{ArcRows, row_at}
use Rattle.par_degree.proofs.Rows.{row-refused, row-unrefused, row-weightless}
use Rattle.par_degree.proofs.weights.row_refusal.Goals as goal

pub returns-in_default : goal.returns-in_default
returns-in_default c =
    let view = c.args.view.now in
    sym (row-weightless view.ids view.arcs.rows view.weights c.args.v c.in_default.ensures.weights)

pub returns-in_default-first_out_of_range : goal.returns-in_default-first_out_of_range
returns-in_default-first_out_of_range c =
    let view = c.args.view.now in
    sym (row-unrefused view.ids view.arcs.rows view.weights c.args.v c.in-Some.weights.now c.in-Some.ensures.weights c.in_default-first_out_of_range.ensures)

pub returns : goal.returns
returns c =
    let view = c.args.view.now in
    let weight : ℤ = slice_index_or c.in-Some.weights.now c.in-Some-first_out_of_range.at (pos 0) in
    let row : List ℕ = row_at view.arcs.rows c.args.v in
    let target : ℕ = slice_index row c.in-Some-first_out_of_range.at in
    ap (λ (w : ℤ). Some (WeightOutOfRange (slice_index c.ids.result.now c.args.v) (slice_index c.ids-2.result.now (slice_index c.row.result.now c.in-Some-first_out_of_range.at)) w)) (to_z-of_z {w = w64} {z = weight} (search rules))
    ∙ ap (λ (ids : List ℕ). Some (WeightOutOfRange (slice_index ids c.args.v) (slice_index c.ids-2.result.now (slice_index c.row.result.now c.in-Some-first_out_of_range.at)) weight)) c.ids.ensures.ids
    ∙ ap (λ (ids : List ℕ). Some (WeightOutOfRange (slice_index view.ids c.args.v) (slice_index ids (slice_index c.row.result.now c.in-Some-first_out_of_range.at)) weight)) c.ids-2.ensures.ids
    ∙ ap (λ (xs : List ℕ). Some (WeightOutOfRange (slice_index view.ids c.args.v) (slice_index view.ids (slice_index xs c.in-Some-first_out_of_range.at)) weight)) (c.row.ensures.row ∙ ap (λ (arcs : ArcRows). row_at arcs.rows c.args.v) c.arcs.ensures.arcs)
    ∙ sym (row-refused view.ids view.arcs.rows view.weights c.args.v c.in-Some.weights.now c.in-Some-first_out_of_range.at c.in-Some.ensures.weights c.in-Some.ensures.beside c.in-Some-first_out_of_range.ensures)
