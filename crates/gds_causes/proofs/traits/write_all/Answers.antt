use Rattle.std.proofs.Common.{arith, ◌∙◌}
use Rattle.std.proofs.lemmas.List.{length-drop}
use Rattle.gds_causes.proofs.Taking.{rest-drop, Appends-take}
use Rattle.gds_causes.proofs.traits.write_all.Goals as goal

pub loop-at-preserved : goal.loop-at-preserved
loop-at-preserved g c =
    let bound = rw (rest-drop c.loop-at.at c.args.from.now) at c.in_ok-at.ensures.bound in (
      omega (arith, length-drop c.loop-at.at c.args.from.now, bound),
      Appends-take _ _ _ _ _ _ c.loop-at.invariant.1 c.in_ok-at.ensures.bytes,
      c.write.ensures.held ∙ c.loop-at.invariant.2,
      c.in_ok-at.ensures.calm ∙ c.loop-at.invariant.3,
    )
