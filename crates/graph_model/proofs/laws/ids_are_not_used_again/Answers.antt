use Rattle.graph_model.proofs.LawLemmas.{ids_are_not_used_again}
use Rattle.graph_model.proofs.laws.ids_are_not_used_again.Goals as goal

pub returns : goal.returns
returns c = ids_are_not_used_again
