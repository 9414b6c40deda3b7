use Rattle.std.proofs.Common.{◌≡◌, ℕ, ◌<◌, ◌≤◌, length, take, drop, ◌++◌, ◌∙◌, subst, arith}
use Rattle.std.proofs.lemmas.List.{take-append-le, length-append, length-drop, length-take}
use Rattle.std.specs.List.{All}
use Rattle.round_engine.specs.Columns.{value_at}
use Rattle.round_engine.specs.Frontier.{IsSettled, IsIn}
use Rattle.round_engine.proofs.Rounding.{settled_round, settled_turned, left-turned, sound-round, above-round}
use Rattle.round_engine.proofs.Frontiers.{frontier_settled}
use Rattle.round_engine.proofs.frontier.settle_round.Given.{Over}
use Rattle.round_engine.proofs.frontier.settle_round.Goals as goal

in_size : (g : Over) (c : goal.After-turned_after g) (v : ℕ) → v < length c.args.column.now → v < g.K.Kernel.size c.args.kernel.now
in_size g c v in_range = omega (arith, in_range, c.requires.running.column_long)

falls : (g : Over) (c : goal.After-turned_after g) (v : ℕ) → v < length c.args.column.now
    → g.K.Kernel.next_value c.args.kernel.now c.args.column.now v ≤ value_at c.args.column.now v
falls g c v in_range = g.met.K.Kernel.falls c.args.kernel.now c.args.column.now v c.requires.running.column_long (in_size g c v in_range)

settled : (g : Over) (c : goal.After-turned_after g)
    → IsSettled (g.K.Kernel.next_value c.args.kernel.now c.args.column.now) c.args.column.now c.settle-fell.new.column (take c.args.count c.args.places.now)
    (take c.settle-fell.result c.settle-fell.new.places)
settled g c = c.settle-fell.ensures.settled (g.K.Kernel.next_value c.args.kernel.now c.args.column.now) c.requires.filled (falls g c)

-- src/frontier.rt:22:1
pub returns-clause-ok : goal.returns-clause-ok
returns-clause-ok g c =
    settled_round (g.K.Kernel.next_value c.args.kernel.now) c.args.column.now c.settle-fell.new.column (take c.args.count c.args.places.now)
    (take c.settle-fell.result c.settle-fell.new.places) c.settle-fell.ensures.column_long c.requires.running.frontier (settled g c)

-- src/frontier.rt:22:1
pub returns-clause-running : goal.returns-clause-running
returns-clause-running g c =
    let size = g.K.Kernel.size c.args.kernel.now in
    let next = g.K.Kernel.next_value c.args.kernel.now in
    let touched = g.K.Kernel.touched c.args.kernel.now in
    let lowered = take c.settle-fell.result c.settle-fell.new.places in
    let list = take c.spread-count.result c.spread-count.new.places in
    let now_long : length c.settle-fell.new.column ≡ size = c.settle-fell.ensures.column_long ∙ c.requires.running.column_long in
    let same_first : take c.settle-fell.result (c.settle-fell.new.places ++ drop c.args.count c.args.places.now) ≡ lowered =
    take-append-le c.settle-fell.result c.settle-fell.new.places (drop c.args.count c.args.places.now) c.settle-fell.ensures.within in
    let places_long : length c.spread-count.new.places ≡ size =
    c.spread-count.ensures.long
    ∙ omega (arith, length-append c.settle-fell.new.places (drop c.args.count c.args.places.now), length-drop c.args.count c.args.places.now, length-take c.args.count c.args.places.now, c.settle-fell.ensures.places_long, c.requires.running.within, c.requires.running.places_long) in
    record {
      column_long = now_long;
      places_long = places_long;
      marks_long = c.spread-count.ensures.marks_long ∙ c.requires.running.marks_long;
      within = omega (arith, c.spread-count.ensures.within, places_long);
      in_range = c.spread-count.ensures.in_range;
      unmarked = c.spread-count.ensures.unmarked;
      frontier =
          frontier_settled size next touched c.args.column.now c.settle-fell.new.column (take c.args.count c.args.places.now) lowered list
          c.requires.running.column_long now_long
          (λ v in_range. g.met.K.Kernel.looks_near c.args.kernel.now c.args.column.now c.settle-fell.new.column v c.requires.running.column_long now_long in_range)
          (returns-clause-ok g c) (settled g c) (subst (All (IsIn touched list)) same_first c.spread-count.ensures.listed);
    }

-- src/frontier.rt:22:1
pub returns-clause-turned : goal.returns-clause-turned
returns-clause-turned g c =
    settled_turned c.turned_after.result (g.K.Kernel.next_value c.args.kernel.now c.args.column.now) c.args.column.now c.settle-fell.new.column
    (take c.args.count c.args.places.now) c.settle-fell.new.places c.settle-fell.result c.turned_after.ensures c.settle-fell.ensures.within c.settle-fell.ensures.column_long
    (settled g c)

-- src/frontier.rt:22:1
pub returns-clause-left : goal.returns-clause-left
returns-clause-left g c =
    left-turned (g.K.Kernel.next_value c.args.kernel.now) c.args.column.now c.turned_after.result c.settle-fell.new.column (returns-clause-ok g c) (falls g c) (returns-clause-turned g c)

-- src/frontier.rt:22:1
pub returns-clause-sound : goal.returns-clause-sound
returns-clause-sound g c =
    rw (returns-clause-ok g c)
    (sound-round (g.K.Kernel.next_value c.args.kernel.now) c.args.column.now (g.K.Kernel.IsSound c.args.kernel.now)
    (λ v in_range. g.met.K.Kernel.keeps_sound c.args.kernel.now c.args.column.now v c.requires.running.column_long (in_size g c v in_range)))

-- src/frontier.rt:22:1
pub returns-clause-above : goal.returns-clause-above
returns-clause-above g c =
    rw (returns-clause-ok g c)
    (λ fixed is_fixed long.
    above-round (g.K.Kernel.next_value c.args.kernel.now) c.args.column.now fixed is_fixed long
    (λ v in_range.
    g.met.K.Kernel.keeps_order c.args.kernel.now fixed c.args.column.now v (long ∙ c.requires.running.column_long) c.requires.running.column_long (in_size g c v in_range)))
