use Rattle.std.proofs.Common.{◌≡◌, take}
use Rattle.projection_spec.specs.Given.{further}
use Rattle.projection_spec.proofs.added.further.Given as goal

abbrev pub invariant-loop-part : goal.invariant-loop-part
invariant-loop-part g l = l.parts ≡ further g.T.Part.called l.own (take l.part-index l.added)
