use Rattle.std.proofs.Common.{◌≡◌, drop}
use Rattle.projection_spec.specs.NativeProjection.{first_refused, refused_label}
use Rattle.native_projection.proofs.known.labels_known.Given as goal

-- the labels so far are known
abbrev pub invariant-loop-entry : goal.invariant-loop-entry
invariant-loop-entry l = first_refused (refused_label l.from) (drop l.entry-index l.entries) ≡ first_refused (refused_label l.from) l.entries
