use Rattle.std.proofs.Common.{◌≡◌, length, map, drop}
use Rattle.std.specs.List.{AllByRecursion}
use Rattle.csr_columns.specs.Parts.{HasNodes}
use Rattle.csr_columns.specs.Plain.{plain_type}
use Rattle.native_projection.specs.Making.{types_among, behind_types}
use Rattle.native_projection.proofs.making.project_types.Given as goal

-- the types so far before those of the entries to come are all types, and have a row for each node
abbrev pub invariant-loop-entry : goal.invariant-loop-entry
invariant-loop-entry l = record {
  types : types_among l.ids l.from l.entries ≡ behind_types (map (plain_type l.ids) l.types) (types_among l.ids l.from (drop l.entry-index l.entries));
  nodes : AllByRecursion (HasNodes (length l.ids)) l.types;
}
