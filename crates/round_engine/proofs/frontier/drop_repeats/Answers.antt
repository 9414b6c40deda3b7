use Rattle.std.proofs.Common.{◌<◌, length, slice_index_or, take, refl, subst, arith}
use Rattle.std.specs.List.{All, Contains}
use Rattle.std.proofs.lemmas.List.{take_all}
use Rattle.round_engine.proofs.Spreading.{keep_more, keep_none}
use Rattle.round_engine.proofs.frontier.drop_repeats.Goals as goal
use Rattle.round_engine.proofs.frontier.drop_repeats.Goals.{then-not-ends_with, else-not-ends_with}

-- src/frontier.rt:102:5
pub loop-at-preserved : goal.loop-at-preserved
loop-at-preserved c =
    let start = c.args.places.now in
    let place = slice_index_or c.loop-at.places c.loop-at.at 0 in
    let within : c.loop-at.at < length start = omega (arith, c.loop-at-test.true, c.loop-at.auto.places) in
    elim c.if-not-ends_with.branch [
      | then-not-ends_with w ↦
          rw (w.places-is, w.kept-is) (keep_more start c.loop-at.places c.loop-at.kept c.loop-at.at place within c.loop-at.auto.places refl c.loop-at.invariant)
      | else-not-ends_with w ↦
          rw (w.places-is, w.kept-is) (keep_none start c.loop-at.places c.loop-at.kept c.loop-at.at place within refl (c.ends_with.ensures w.if-not-ends_with.false) c.loop-at.invariant)
    ]

-- src/frontier.rt:95:1
pub returns-clause-all : goal.returns-clause-all
returns-clause-all c =
    subst (All (Contains (take c.loop-at.kept c.loop-at.places))) (take_all c.loop-at.at c.args.places.now (omega (arith, c.loop-at-test.false, c.loop-at.auto.places))) c.loop-at.invariant.all
