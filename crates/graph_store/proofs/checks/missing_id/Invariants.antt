use Rattle.std.proofs.Common.{◌≡◌, drop}
use Rattle.std.specs.List.{find}
use Rattle.graph_store.specs.Missing.{is_dead}
use Rattle.graph_store.proofs.checks.missing_id.Given as goal

abbrev pub invariant-loop-id : goal.invariant-loop-id
invariant-loop-id g l = find (is_dead l.slots) (drop l.id-index l.ids) ≡ find (is_dead l.slots) l.ids
