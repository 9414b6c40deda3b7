use Rattle.std.proofs.Common.{◌≡◌, drop}
use Rattle.projection_spec.specs.NativeProjection.{first_refused, refused_rel_keys}
use Rattle.native_projection.proofs.known.rel_keys_known.Given as goal

-- the keys of the entries so far are known
abbrev pub invariant-loop-entry : goal.invariant-loop-entry
invariant-loop-entry l = first_refused (refused_rel_keys l.from) (drop l.entry-index l.entries) ≡ first_refused (refused_rel_keys l.from) l.entries
