use Rattle.std.proofs.Common.{◌≡◌, drop}
use Rattle.projection_spec.specs.NativeProjection.{first_refused, refused_type}
use Rattle.native_projection.proofs.known.types_known.Given as goal

-- the types so far are known
abbrev pub invariant-loop-entry : goal.invariant-loop-entry
invariant-loop-entry l = first_refused (refused_type l.from) (drop l.entry-index l.entries) ≡ first_refused (refused_type l.from) l.entries
