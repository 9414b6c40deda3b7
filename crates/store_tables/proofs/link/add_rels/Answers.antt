use Rattle.std.proofs.Common.{length, sym}
use Rattle.store_tables.proofs.LinkLemmas.{linked_rel, linked_dead}
use Rattle.store_tables.proofs.link.add_rels.Goals as goal
use Rattle.store_tables.proofs.link.add_rels.Goals.{in-Some+in_ok-add_rel-in-Some, in-None+in_ok-push-in-None}

pub loop-row-preserved : goal.loop-row-preserved
loop-row-preserved c =
    let rels = c.args.rels.now in
    let row = c.loop-row.row in
    let nodes = length c.args.latest.now in
    elim c.match-live_at.branch [
      | in-Some+in_ok-add_rel-in-Some w ↦ let there = sym w.in-Some.ensures in
          rw (w.links-is, w.latest-is, w.in_ok-add_rel-in-Some.ensures.links, w.in_ok-add_rel-in-Some.ensures.latest)
          (linked_rel rels c.loop-row.links c.loop-row.latest row nodes w.in-Some.rel.now c.loop-row.invariant there
          (rw c.loop-row.invariant.nodes_known (c.requires.sources row w.in-Some.rel.now there)))
      | in-None+in_ok-push-in-None w ↦ rw (w.links-is, w.latest-is, w.in_ok-push-in-None.ensures)
          (linked_dead rels c.loop-row.links c.loop-row.latest row nodes c.loop-row.invariant (sym w.in-None.ensures))
    ]
