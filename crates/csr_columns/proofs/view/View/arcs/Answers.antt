use Rattle.std.proofs.Common.{subst}
use Rattle.csr_columns.specs.ViewParts.{HasWeightsAmong}
use Rattle.csr_columns.proofs.ViewRows.{weights-among}
use Rattle.csr_columns.proofs.view.View.arcs.Goals as goal

pub returns-clause-weights : goal.returns-clause-weights
returns-clause-weights c =
    subst HasWeightsAmong c.self.view_is (weights-among c.self.inside.ids c.self.inside.arcs c.self.inside.weight c.self.inside.directed c.self.invariant.weighted)
