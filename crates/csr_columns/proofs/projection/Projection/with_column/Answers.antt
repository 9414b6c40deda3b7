use Rattle.std.proofs.Common.{ap, ◌∙◌}
use Rattle.csr_columns.specs.Plain.{plain}
use Rattle.csr_columns.specs.declared.parts.Parts.{Parts}
use Rattle.csr_columns.proofs.WithColumn.{plain-wider}
use Rattle.csr_columns.proofs.projection.Projection.with_column.Goals as goal

pub returns-in-Ok-clause-ok : goal.returns-in-Ok-clause-ok
returns-in-Ok-clause-ok c = ap (λ (p : Parts). plain p) c.in-Ok.ensures ∙ plain-wider c.args.self.now c.args.key c.args.column.now
