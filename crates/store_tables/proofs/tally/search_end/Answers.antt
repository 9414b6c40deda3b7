use Rattle.std.proofs.Common.{arith}
use Rattle.store_tables.proofs.SearchLemmas.{reached-on}
use Rattle.store_tables.proofs.tally.search_end.Goals as goal

pub loop-next-preserved : goal.loop-next-preserved
loop-next-preserved c =
    let on = c.in-Some.ensures in
    record {
      within = on.within;
      few = omega (arith, on.behind);
      reached = reached-on c.args.name.now c.args.rows.now c.loop-next.place c.loop-next.depth c.in-Some.next c.loop-next.invariant.within c.loop-next.invariant.reached on;
    }
