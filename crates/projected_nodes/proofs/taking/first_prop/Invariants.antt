use Rattle.std.proofs.Common.{◌≡◌, drop}
use Rattle.projection_spec.specs.NativeProjection.{first_prop}
use Rattle.projected_nodes.proofs.taking.first_prop.Given as goal

-- no entry so far has a property for the node
abbrev pub invariant-loop-entry : goal.invariant-loop-entry
invariant-loop-entry l = first_prop (drop l.entry-index l.entries) l.node l.key ≡ first_prop l.entries l.node l.key
