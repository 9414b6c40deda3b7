use Rattle.std.proofs.Common.{length, ap, subst, arith}
use Rattle.csr_columns.specs.Rows.{ArcRows, HasColumnsBeside, HasTargetsBelow}
use Rattle.csr_columns.proofs.OffsetRows.{length-cut_rows}
use Rattle.csr_columns.proofs.Shown.{columns_beside, targets_below}
use Rattle.csr_columns.proofs.arc_columns.ArcColumns.node_count.Goals as goal

pub returns-clause-nodes : goal.returns-clause-nodes
returns-clause-nodes c =
    omega (arith, ap (λ (r : ArcRows). length r.rows) c.self.view_is, length-cut_rows c.self.inside.offsets.items c.self.inside.targets.items)

pub returns-clause-below : goal.returns-clause-below
returns-clause-below c =
    subst (λ (r : ArcRows). HasTargetsBelow r.rows) c.self.view_is (targets_below c.self.inside.offsets.items c.self.inside.targets.items c.self.invariant.below)

pub returns-clause-beside : goal.returns-clause-beside
returns-clause-beside c =
    subst HasColumnsBeside c.self.view_is (columns_beside c.self.inside.offsets.items c.self.inside.targets.items c.self.inside.keys c.self.inside.columns.items c.self.invariant)
