use Rattle.std.proofs.Common.{◌∙◌, ap}
use Rattle.graph_model.specs.Lists.{in_order}
use Rattle.projected_arcs.specs.Flat.{flat_before}
use Rattle.projected_arcs.proofs.FlatOrder.{sorted-flat}
use Rattle.projected_arcs.proofs.flat.sorted_arcs.Goals as goal

pub returns : goal.returns
returns c =
    sorted-flat c.in_ok-arcs.arcs.items c.sort_unstable.new.self.items c.sort_unstable.ensures.permutation c.sort_unstable.ensures.sorted
    ∙ ap (in_order flat_before) c.in_ok-arcs.ensures
