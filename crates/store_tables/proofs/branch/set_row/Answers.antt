use Rattle.std.proofs.Common.{List, [], ◌<◌, ◌%◌, length, sym, subst, arith}
use Rattle.std.proofs.lemmas.Result.{on_ok_weaker}
use Rattle.store_tables.proofs.Joining.{row_within, row_set}
use Rattle.store_tables.proofs.branch.set_row.Goals as goal

pub index_mut-leaf-requires : goal.index_mut-leaf-requires
index_mut-leaf-requires g c =
    let there = row_within 1024 c.args.leaves.now.items c.args.row [] (omega arith) c.requires.full c.requires.within in
    let long = c.args.leaves.now.ok in omega (arith, there.0, long.0)

pub set-requires : goal.set-requires
set-requires g c =
    let there = row_within 1024 c.args.leaves.now.items c.args.row c.index_mut-leaf.result.now (omega arith) c.requires.full c.requires.within in
    subst (λ (part : List g.row.T.Denot). c.args.row % 1024 < length part) (sym c.index_mut-leaf.ensures.value) there.1

pub returns-clause-set : goal.returns-clause-set
returns-clause-set g c =
    on_ok_weaker c.set.result (λ e. rw e (row_set 1024 c.args.leaves.now.items c.args.row c.index_mut-leaf.result.now c.args.item (omega arith) c.requires.full c.requires.within c.index_mut-leaf.ensures.value).0) c.set.ensures.ok

pub returns-clause-filled : goal.returns-clause-filled
returns-clause-filled g c =
    on_ok_weaker c.set.result (λ e. rw e (row_set 1024 c.args.leaves.now.items c.args.row c.index_mut-leaf.result.now c.args.item (omega arith) c.requires.full c.requires.within c.index_mut-leaf.ensures.value).1) c.set.ensures.ok
