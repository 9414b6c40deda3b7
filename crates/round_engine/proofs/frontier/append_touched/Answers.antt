use Rattle.std.proofs.Common.{◌+◌, ◌-◌, ◌<◌, length, slice_index_or, sym, subst, arith}
use Rattle.std.specs.List.{All}
use Rattle.round_engine.proofs.Spreading.{IsAppendedBefore, append_in, append_more, appended_whole}
use Rattle.round_engine.proofs.frontier.append_touched.Goals as goal

-- src/frontier.rt:83:5
pub loop-at-preserved : goal.loop-at-preserved
loop-at-preserved g c =
    let size = g.K.Kernel.size c.args.kernel.now in
    let touched = g.K.Kernel.touched c.args.kernel.now in
    rw c.copy_from_slice.ensures.after
    (append_more size touched c.args.places.now c.loop-at.places c.touches-touched.result.now c.args.count c.loop-at.end c.loop-at.at (c.loop-at.end + length c.touches-touched.result.now - c.loop-at.end)
    c.loop-at-test.true c.requires.within c.loop-at.auto.places
    (omega (arith, c.saturating_sub.ensures, c.if-saturating_sub-touched.false, c.loop-at.invariant.within))
    c.touches-touched.ensures
    (subst (All (λ v. v < size)) (sym c.touches-touched.ensures) (g.met.K.Kernel.touches_places c.args.kernel.now (slice_index_or c.loop-at.places c.loop-at.at 0)
    (append_in size touched c.args.places.now c.loop-at.places c.args.count c.loop-at.end c.loop-at.at c.loop-at-test.true c.loop-at.auto.places c.loop-at.invariant)))
    c.loop-at.invariant)

-- src/frontier.rt:71:1
pub returns-clause-listed : goal.returns-clause-listed
returns-clause-listed g c =
    let size = g.K.Kernel.size c.args.kernel.now in
    let touched = g.K.Kernel.touched c.args.kernel.now in
    appended_whole size touched c.args.places.now c.loop-at.places c.args.count c.loop-at.end c.loop-at.auto.places
    (subst (IsAppendedBefore size touched c.args.places.now c.loop-at.places c.args.count c.loop-at.end) (omega (arith, c.loop-at-test.false, c.loop-at.auto.at-end)) c.loop-at.invariant)
