use Rattle.std.proofs.Common.{rules}
use Rattle.csr_columns.proofs.projection.Projection.whole_type.Goals as goal

pub returns : goal.returns
returns c = record { nodes = search rules; only = search rules; ascend = search rules; below = search rules }
