use Rattle.std.proofs.Common.{sym, ap, ◌∙◌}
use Rattle.csr_columns.specs.Rows.{turned_rows}
use Rattle.gds_bench.proofs.least.LeastTryClone.try_clone.Goals as goal

pub invariant_of-result : goal.invariant_of-result
invariant_of-result c = record { turned = c.in_ok-try_clone-2.ensures ∙ c.args.self.now.turned ∙ ap turned_rows (sym c.in_ok-try_clone.ensures) }
