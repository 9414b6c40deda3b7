use Rattle.std.specs.List.{AllByRecursion}
use Rattle.graph_model.specs.Graph.{EndsLive}
use Rattle.store_tables.specs.Slots.{living}
use Rattle.graph_store.proofs.SourceLemmas.{source_below}
use Rattle.graph_store.proofs.store.Store.of.Goals as goal

pub extended-requires-clause-sources : goal.extended-requires-clause-sources
extended-requires-clause-sources c = λ id rel is.
    let nodes = c.in_ok-nodes.nodes in
    let rels = c.in_ok-rels.rels in
    let ends : AllByRecursion (EndsLive (living nodes)) (living rels) = rw (c.in_ok-nodes.ensures.living, c.in_ok-rels.ensures.living) c.requires.valid.ends in
    rw c.len.ensures (source_below nodes rels id rel c.in_ok-nodes.ensures.numbered ends is)
