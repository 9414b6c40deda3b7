use Rattle.std.proofs.Common.{◌<◌, length, sym, arith}
use Rattle.store_tables.proofs.CensusLemmas.{counted-more, counted-dead}
use Rattle.store_tables.proofs.census.Census.with_rows.Goals as goal
use Rattle.store_tables.proofs.census.Census.with_rows.Goals.{in-Some+in_ok-census-2, in_default}

pub loop-row-preserved : goal.loop-row-preserved
loop-row-preserved g c =
    let classes_of = g.E.Element.classes_of in
    let props_of = g.E.Element.props_of in
    let slots = c.args.slots.now in
    let before = c.loop-row.census in
    let within : c.loop-row.row < length slots = omega (arith, c.loop-row-test.true, c.len-row-end.ensures) in
    elim c.match-live_at.branch [
      | in-Some+in_ok-census-2 w ↦
          let after = w.in_ok-census-2.census in
          rw w.census-is
          (counted-more classes_of props_of slots c.loop-row.row w.in-Some.element.now before.classes before.keys after.classes after.keys within (sym w.in-Some.ensures) c.loop-row.invariant
          w.in_ok-census-2.ensures.classes w.in_ok-census-2.ensures.keys)
      | in_default w ↦ rw w.census-is (counted-dead classes_of props_of slots c.loop-row.row before.classes before.keys within (sym w.in_default.ensures) c.loop-row.invariant)
    ]
