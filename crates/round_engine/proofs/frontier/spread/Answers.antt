use Rattle.std.proofs.Common.{◌<◌, take, drop}
use Rattle.round_engine.proofs.Spreading.{sorted_in_range, sorted_listed}
use Rattle.round_engine.proofs.frontier.spread.Goals as goal

-- src/frontier.rt:37:1
pub returns-in-Some-clause-in_range : goal.returns-in-Some-clause-in_range
returns-in-Some-clause-in_range g c =
    let places = c.append_touched.new.places in
    sorted_in_range (λ v. v < g.K.Kernel.size c.args.kernel.now) (take c.in-Some.end places) c.sort_unstable.new.self c.drop_repeats.new.places (drop c.in-Some.end places)
    c.drop_repeats.result c.drop_repeats.ensures.within c.sort_unstable.ensures.permutation c.drop_repeats.ensures.only c.in-Some.ensures.in_range

-- src/frontier.rt:37:1
pub returns-in-Some-clause-listed : goal.returns-in-Some-clause-listed
returns-in-Some-clause-listed g c =
    let places = c.append_touched.new.places in
    sorted_listed (g.K.Kernel.touched c.args.kernel.now) (take c.in-Some.end places) c.sort_unstable.new.self c.drop_repeats.new.places (drop c.in-Some.end places) (take c.args.count c.args.places.now)
    c.drop_repeats.result c.drop_repeats.ensures.within c.sort_unstable.ensures.permutation c.drop_repeats.ensures.all c.in-Some.ensures.listed
