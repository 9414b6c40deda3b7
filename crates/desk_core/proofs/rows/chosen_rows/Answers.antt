use Rattle.std.proofs.Common.{length, sym, ap, ◌∙◌}
use Rattle.std.proofs.lemmas.List.FromFn.{length-map-range_with_len}
use Rattle.csr_columns.specs.Choosing.{is_kept}
use Rattle.desk_core.proofs.rows.chosen_rows.Goals as goal

pub kept_rows-requires-clause-flags : goal.kept_rows-requires-clause-flags
kept_rows-requires-clause-flags c =
    ap length (c.as_slice.ensures.value ∙ c.in_ok-kept.ensures)
    ∙ length-map-range_with_len (is_kept c.args.labels.now c.args.graph.now.labels) 0 (length c.args.graph.now.ids)
    ∙ ap length (sym c.ids.ensures.ids)
