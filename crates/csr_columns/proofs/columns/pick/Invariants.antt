use Rattle.std.proofs.Common.{◌≡◌, map, take}
use Rattle.csr_columns.specs.Offsets.{item_at}
use Rattle.csr_columns.proofs.columns.pick.Given as goal

-- the items at the places so far
abbrev pub invariant-loop-place : goal.invariant-loop-place
invariant-loop-place g l = (d : g.row.T.Denot) → l.picked.items ≡ map (item_at l.items d) (take l.place-index l.places)
