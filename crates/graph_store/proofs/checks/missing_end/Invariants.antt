use Rattle.std.proofs.Common.{◌≡◌, drop}
use Rattle.std.specs.List.{find, flat_map}
use Rattle.graph_model.specs.Change.{named_ends}
use Rattle.graph_store.specs.Missing.{is_dead}
use Rattle.graph_store.proofs.checks.missing_end.Given as goal

abbrev pub invariant-loop-rel : goal.invariant-loop-rel
invariant-loop-rel l = find (is_dead l.nodes) (flat_map named_ends (drop l.rel-index l.rels)) ≡ find (is_dead l.nodes) (flat_map named_ends l.rels)
