use Rattle.std.proofs.Common.{◌≡◌}
use Rattle.graph_model.specs.ById.{rels_below}
use Rattle.store_keeper.proofs.reading.rels_of.Given as goal

-- the copies so far are the elements with ids below this one
abbrev pub invariant-loop-id : goal.invariant-loop-id
invariant-loop-id l = l.rels ≡ rels_below l.id l.store
