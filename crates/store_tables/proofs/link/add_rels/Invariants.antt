use Rattle.std.proofs.Common.{length}
use Rattle.store_tables.specs.Links.{IsLinkedUpTo}
use Rattle.store_tables.proofs.link.add_rels.Given as goal

abbrev pub invariant-loop-row : goal.invariant-loop-row
invariant-loop-row l = IsLinkedUpTo l.rels l.links l.latest l.row (length l.fn.latest)
