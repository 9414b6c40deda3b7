use Rattle.std.proofs.Common.{◌≡◌, drop, map}
use Rattle.std.specs.List.{find}
use Rattle.graph_model.specs.Change.{pair_id}
use Rattle.graph_store.specs.Missing.{is_dead}
use Rattle.graph_store.proofs.checks.missing_of_pairs.Given as goal

abbrev pub invariant-loop-id : goal.invariant-loop-id
invariant-loop-id g l = find (is_dead l.slots) (map pair_id (drop l.id-index l.pairs)) ≡ find (is_dead l.slots) (map pair_id l.pairs)
