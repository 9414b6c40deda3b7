use Rattle.graph_model.proofs.LawLemmas.{fitting_change_keeps_graph}
use Rattle.graph_model.proofs.laws.fitting_change_keeps_graph.Goals as goal

pub returns : goal.returns
returns c = fitting_change_keeps_graph
