use Rattle.std.proofs.Common.{◌≡◌, drop}
use Rattle.projection_spec.specs.NativeProjection.{first_refused, refused_rel_prop}
use Rattle.native_projection.proofs.known.props_known.Given as goal

-- the keys so far are known
abbrev pub invariant-loop-prop : goal.invariant-loop-prop
invariant-loop-prop l = first_refused (refused_rel_prop l.from) (drop l.prop-index l.props) ≡ first_refused (refused_rel_prop l.from) l.props
