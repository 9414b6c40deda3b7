use Rattle.std.proofs.Common.{◌≡◌, ◌++◌, map}
use Rattle.std.specs.Vec.Iter.{into_iter_items}
use Rattle.std.specs.List.{AllByRecursion}
use Rattle.projection_spec.specs.Written.{HasSources}
use Rattle.projection_spec.specs.Projected.{settled_entry, mixed_in}
use Rattle.projection_spec.proofs.settled.settled_entries.Given as goal

abbrev pub invariant-loop-entry : goal.invariant-loop-entry
invariant-loop-entry l = record {
  so_far : map settled_entry l.fn.entries ≡ l.settled ++ map settled_entry (into_iter_items l.entry-iterator);
  first : mixed_in l.fn.entries ≡ mixed_in (into_iter_items l.entry-iterator);
  sources : AllByRecursion HasSources (into_iter_items l.entry-iterator);
}
