use Rattle.graph_model.proofs.KeptLemmas.{fitting_commit_keeps_kept, notes_add_answers, answer_stands_under_id}
use Rattle.graph_model.proofs.laws.notes_are_kept.Goals as goal

pub returns-clause-valid : goal.returns-clause-valid
returns-clause-valid c = fitting_commit_keeps_kept

pub returns-clause-places : goal.returns-clause-places
returns-clause-places c = notes_add_answers

pub returns-clause-found : goal.returns-clause-found
returns-clause-found c = answer_stands_under_id
