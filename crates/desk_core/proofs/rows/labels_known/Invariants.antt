use Rattle.std.proofs.Common.{◌≡◌, drop}
use Rattle.graph_model.specs.View.{first_unknown}
use Rattle.csr_columns.specs.Rows.{names_of}
use Rattle.desk_core.proofs.rows.labels_known.Given as goal

-- the first unknown name of the rest is that of all
abbrev pub invariant-loop-name : goal.invariant-loop-name
invariant-loop-name l =
    first_unknown (names_of l.graph.labels) (drop l.name-index l.name-items) ≡ first_unknown (names_of l.graph.labels) l.name-items
