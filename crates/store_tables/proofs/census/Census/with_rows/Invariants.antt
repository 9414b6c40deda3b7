use Rattle.std.proofs.Common.{take}
use Rattle.store_tables.specs.Counted.{IsCounted}
use Rattle.store_tables.proofs.census.Census.with_rows.Given as goal

abbrev pub invariant-loop-row : goal.invariant-loop-row
invariant-loop-row g l = IsCounted g.E.Element.classes_of g.E.Element.props_of (take l.row l.slots) l.census.classes l.census.keys
