use Rattle.std.proofs.Common.{◌≡◌, subst, sym, rules, arith}
use Rattle.graph_model.specs.Lists.{Pairwise}
use Rattle.graph_model.specs.Change.{NamesDiffer}
use Rattle.json_forms.proofs.DistinctLemmas.{names_differ, few_once, few_differ}
use Rattle.json_forms.proofs.elements.each_once.Goals as goal

pub returns-then-len-lt2-clause-once : goal.returns-then-len-lt2-clause-once
returns-then-len-lt2-clause-once c = few_once c.args.names (omega arith)

pub returns-then-len-lt2-clause-formed : goal.returns-then-len-lt2-clause-formed
returns-then-len-lt2-clause-formed c = few_differ c.args.names (omega arith)

pub returns-clause-formed : goal.returns-clause-formed
returns-clause-formed c =
    let all : c.loop-name-2.ordered ≡ c.loop-name.set.keys = search rules in
    subst (Pairwise NamesDiffer) (sym all) (names_differ c.loop-name.set.keys c.into_iter-name-iterator-2.ensures.into_iter_gives.4)
