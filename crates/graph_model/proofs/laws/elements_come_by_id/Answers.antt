use Rattle.graph_model.proofs.IdLemmas.{elements_come_by_id}
use Rattle.graph_model.proofs.laws.elements_come_by_id.Goals as goal

pub returns : goal.returns
returns c = elements_come_by_id
