use Rattle.rel_aggregate.proofs.Cut.{IsFirstGroup, IsFirstGroup-first}
use Rattle.rel_aggregate.proofs.groups.first_group_length.Goals as goal

first_group : (c : goal.After-leading_length) → IsFirstGroup c.args.arcs.now c.leading_length.result
first_group c = IsFirstGroup-first c.args.arcs.now c.in-Some.first.now c.leading_length.result c.requires.ascending c.in-Some.ensures.value c.leading_length.ensures.count

pub returns-in-Some-clause-cut : goal.returns-in-Some-clause-cut
returns-in-Some-clause-cut c = rw c.if-grouped.true (first_group c).cut

pub returns-in-Some-clause-least_first : goal.returns-in-Some-clause-least_first
returns-in-Some-clause-least_first c = (first_group c).least_first
