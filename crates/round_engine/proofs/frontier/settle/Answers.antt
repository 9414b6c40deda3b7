use Rattle.std.proofs.Common.{◌<◌, length, slice_index_or, refl, arith}
use Rattle.round_engine.proofs.Settling.{settle_more, settle_none}
use Rattle.round_engine.proofs.frontier.settle.Goals as goal
use Rattle.round_engine.proofs.frontier.settle.Goals.{then-values-at, else-values-at}

-- src/frontier.rt:23:5
pub loop-at-preserved : goal.loop-at-preserved
loop-at-preserved c =
    let start = c.args.places.now in
    let place = slice_index_or c.loop-at.places c.loop-at.at 0 in
    let value = slice_index_or c.args.values.now c.loop-at.at 0 in
    let within : c.loop-at.at < length start = omega (arith, c.loop-at-test.true, c.requires.room) in
    let in_range : place < length c.args.column.now = omega (arith, c.requires.in_range c.loop-at.at 0 within, c.loop-at.invariant.rest c.loop-at.at (omega arith)) in
    elim c.if-values-at.branch [
      | then-values-at w ↦
          rw (w.column-is, w.places-is, w.fell-is)
          (settle_more c.args.column.now c.loop-at.column start c.loop-at.places c.args.values.now c.loop-at.fell c.loop-at.at place value within c.loop-at.auto.places refl in_range c.loop-at.auto.column refl w.if-values-at.true c.loop-at.invariant)
      | else-values-at w ↦
          rw (w.column-is, w.places-is, w.fell-is)
          (settle_none c.args.column.now c.loop-at.column start c.loop-at.places c.args.values.now c.loop-at.fell c.loop-at.at place value within refl in_range refl w.if-values-at.false c.loop-at.invariant)
    ]
