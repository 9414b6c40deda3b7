use Rattle.std.proofs.Common.{◌≡◌, drop}
use Rattle.projection_spec.specs.NativeProjection.{first_refused, unknown_node_key}
use Rattle.native_projection.proofs.known.entry_keys_known.Given as goal

-- the keys so far are known
abbrev pub invariant-loop-prop : goal.invariant-loop-prop
invariant-loop-prop l = first_refused (unknown_node_key l.from) (drop l.prop-index l.prop-items) ≡ first_refused (unknown_node_key l.from) l.entry.props
