use Rattle.std.proofs.Common.{◌≡◌, ◌++◌, drop}
use Rattle.graph_model.specs.Change.{set_prop}
use Rattle.graph_store.proofs.values.set_prop.Given as goal

-- the values so far, and the rest of them with the one set
abbrev pub invariant-loop-place : goal.invariant-loop-place
invariant-loop-place l = l.front ++ set_prop l.key l.value (drop l.place l.all) ≡ set_prop l.key l.value l.all
