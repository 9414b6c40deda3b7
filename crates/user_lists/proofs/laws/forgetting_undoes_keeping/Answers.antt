use Rattle.user_lists.proofs.Kept.{forgotten}
use Rattle.user_lists.proofs.laws.forgetting_undoes_keeping.Goals as goal

pub returns : goal.returns
returns c = forgotten
