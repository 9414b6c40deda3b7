use Rattle.std.proofs.Common.{ℕ, List, length, ap, ◌∙◌}
use Rattle.csr_columns.proofs.ArcCounts.{length-targets_of}
use Rattle.csr_columns.proofs.Listing.{row_at-rows_of}
use Rattle.csr_columns.proofs.laws.rows.Goals as goal

pub returns-clause-targets : goal.returns-clause-targets
returns-clause-targets c = row_at-rows_of

pub returns-clause-degree : goal.returns-clause-degree
returns-clause-degree c nodes arcs v h = ap (λ (xs : List ℕ). length xs) (row_at-rows_of nodes arcs v h) ∙ length-targets_of arcs v
