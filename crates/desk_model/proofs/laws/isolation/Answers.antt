use Rattle.desk_model.proofs.Isolation.{replies_are_replayed, replies_are_own, others_stay}
use Rattle.desk_model.proofs.laws.isolation.Goals as goal

pub returns-clause-replayed : goal.returns-clause-replayed
returns-clause-replayed c = replies_are_replayed

pub returns-clause-own : goal.returns-clause-own
returns-clause-own c = replies_are_own

pub returns-clause-others : goal.returns-clause-others
returns-clause-others c = others_stay
