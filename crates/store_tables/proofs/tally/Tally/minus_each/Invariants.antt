use Rattle.std.proofs.Common.{◌≡◌, ℕ, ◌-◌, List, take}
use Rattle.store_tables.specs.NameRows.{count_under}
use Rattle.store_tables.specs.Counted.{times}
use Rattle.store_tables.proofs.tally.Tally.minus_each.Given as goal

abbrev pub invariant-loop-item : goal.invariant-loop-item
invariant-loop-item g l = (other : List ℕ) → count_under l.tally other ≡ count_under l.fn.self other - times g.N.Named.name_of (take l.item-index l.items) other
