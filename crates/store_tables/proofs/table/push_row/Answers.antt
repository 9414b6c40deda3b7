use Rattle.std.proofs.Common.{◌≡◌, ◌+◌, ◌-◌, ◌<◌, ◌≤◌, length, arith}
use Rattle.std.proofs.lemmas.Result.{on_ok_weaker}
use Rattle.store_tables.specs.Joined.{last_length}
use Rattle.store_tables.proofs.Joining.{last_length-some, row_pushed_last, row_pushed_new}
use Rattle.store_tables.proofs.table.push_row.Goals as goal

pub returns-then-last_len-lt-BRANCH_ROOM-clause-pushed : goal.returns-then-last_len-lt-BRANCH_ROOM-clause-pushed
returns-then-last_len-lt-BRANCH_ROOM-clause-pushed g c =
    let room : last_length 1048576 c.args.branches.now.items < 1048576 = rw (← c.as_slice.ensures.value, ← c.last_len.ensures) c.if-last_len-lt-BRANCH_ROOM.true in
    let count : c.len-last.result - 1 + 1 ≡ length c.args.branches.now.items = omega (arith, c.len-last.ensures, last_length-some 1048576 c.args.branches.now.items room) in
    on_ok_weaker c.push.result (λ e. rw e (row_pushed_last 1048576 c.args.branches.now.items (c.len-last.result - 1) c.index_mut-branch.result.now c.args.item c.requires room count c.index_mut-branch.ensures.value).0) c.push.ensures.ok

pub returns-then-last_len-lt-BRANCH_ROOM-clause-filled : goal.returns-then-last_len-lt-BRANCH_ROOM-clause-filled
returns-then-last_len-lt-BRANCH_ROOM-clause-filled g c =
    let room : last_length 1048576 c.args.branches.now.items < 1048576 = rw (← c.as_slice.ensures.value, ← c.last_len.ensures) c.if-last_len-lt-BRANCH_ROOM.true in
    let count : c.len-last.result - 1 + 1 ≡ length c.args.branches.now.items = omega (arith, c.len-last.ensures, last_length-some 1048576 c.args.branches.now.items room) in
    on_ok_weaker c.push.result (λ e. rw e (row_pushed_last 1048576 c.args.branches.now.items (c.len-last.result - 1) c.index_mut-branch.result.now c.args.item c.requires room count c.index_mut-branch.ensures.value).1) c.push.ensures.ok

pub returns-clause-pushed : goal.returns-clause-pushed
returns-clause-pushed g c =
    let full : 1048576 ≤ last_length 1048576 c.args.branches.now.items = rw (← c.as_slice.ensures.value, ← c.last_len.ensures) c.if-last_len-lt-BRANCH_ROOM.false in
    rw (c.in_ok-push.ensures.items, c.in_ok-branch.ensures) (row_pushed_new 1048576 c.args.branches.now.items c.args.item (omega arith) c.requires full).0

pub returns-clause-filled : goal.returns-clause-filled
returns-clause-filled g c =
    let full : 1048576 ≤ last_length 1048576 c.args.branches.now.items = rw (← c.as_slice.ensures.value, ← c.last_len.ensures) c.if-last_len-lt-BRANCH_ROOM.false in
    rw (c.in_ok-push.ensures.items, c.in_ok-branch.ensures) (row_pushed_new 1048576 c.args.branches.now.items c.args.item (omega arith) c.requires full).1
