use Rattle.json_forms.proofs.ItemLemmas.{no_pair_below, no_pair_above}
use Rattle.json_forms.proofs.single.pair_of.Goals as goal

pub returns-in_default-clause-refused : goal.returns-in_default-clause-refused
returns-in_default-clause-refused c = no_pair_below c.args.items.now c.in_default.len_below

pub returns-in_default-2-clause-refused : goal.returns-in_default-2-clause-refused
returns-in_default-2-clause-refused c = no_pair_above c.args.items.now c.in_default.len_at_least
