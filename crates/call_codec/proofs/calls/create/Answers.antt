use Rattle.std.proofs.Common.{◌≡◌, true, length, rules}
use Rattle.std.specs.List.{list_all}
use Rattle.call_codec.specs.Calls.{are_ends_below}
use Rattle.call_codec.proofs.RelLemmas.{rels_formed}
use Rattle.call_codec.proofs.calls.create.Goals as goal

pub returns-clause-formed : goal.returns-clause-formed
returns-clause-formed c =
    let nodes = c.in_ok-nodes.nodes in
    let rels = c.in_ok-rels.rels in
    let below : list_all (are_ends_below (length nodes)) rels ≡ true = search rules in
    (c.in_ok-nodes.ensures.formed, rels_formed (length nodes) rels below c.in_ok-rels.ensures.formed)
