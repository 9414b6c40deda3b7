use Rattle.std.proofs.Common.{◌≡◌, drop}
use Rattle.projection_spec.specs.Given.{has_name}
use Rattle.projection_spec.proofs.added.has_name.Given as goal

abbrev pub invariant-loop-part : goal.invariant-loop-part
invariant-loop-part g l = has_name g.T.Part.called l.parts l.name ≡ has_name g.T.Part.called (drop l.part-index l.parts) l.name
