use Rattle.std.proofs.Common.{◌≡◌, ◌<◌, length, take, ◌∙◌, subst, arith}
use Rattle.std.proofs.lemmas.List.Elements.{All-weaker}
use Rattle.std.specs.List.{All}
use Rattle.round_engine.specs.Frontier.{IsMarked}
use Rattle.round_engine.proofs.Sums.{sum-nowhere_greater}
use Rattle.round_engine.proofs.Frontiers.{frontier_lowered}
use Rattle.round_engine.proofs.frontier.lower_column.Goals as goal

-- src/frontier.rt:76:1
pub returns-clause-running : goal.returns-clause-running
returns-clause-running g c =
    let size = g.K.Kernel.size c.args.kernel.now in
    let next = g.K.Kernel.next_value c.args.kernel.now in
    let touched = g.K.Kernel.touched c.args.kernel.now in
    let places = take c.args.count c.args.places.now in
    let list = take c.list_marked.result c.list_marked.new.places in
    let now_long : length c.args.to.now ≡ size = c.requires.to_long ∙ c.requires.running.column_long in
    let places_long : length c.list_marked.new.places ≡ size = c.list_marked.ensures.places_long ∙ c.requires.running.places_long in
    rw c.lower.ensures.column
    (record {
      column_long = now_long;
      places_long = places_long;
      marks_long = c.list_marked.ensures.marks_long ∙ (c.lower.ensures.long ∙ (c.mark.ensures.long ∙ c.requires.running.marks_long));
      within = omega (arith, c.list_marked.ensures.within, places_long);
      in_range = subst (λ n. All (λ v. v < n) list) c.len.ensures c.list_marked.ensures.in_range;
      unmarked = c.list_marked.ensures.unmarked;
      frontier =
          frontier_lowered size next touched c.args.column.now c.args.to.now places list c.lower.new.marks c.requires.running.column_long now_long
          (λ v in_range. g.met.K.Kernel.looks_near c.args.kernel.now c.args.column.now c.args.to.now v c.requires.running.column_long now_long in_range)
          (g.met.K.Kernel.touches_places c.args.kernel.now) c.requires.running.frontier
          (All-weaker (IsMarked c.mark.new.marks) (IsMarked c.lower.new.marks) c.lower.ensures.stay places c.mark.ensures.marked) c.lower.ensures.marked
          (λ v in_range. c.list_marked.ensures.listed v (omega (arith, c.len.ensures, in_range)));
    })

-- src/frontier.rt:76:1
pub returns-clause-left : goal.returns-clause-left
returns-clause-left g c =
    rw c.lower.ensures.column (sum-nowhere_greater c.args.to.now c.args.column.now c.requires.to_long c.requires.lower)
