use Rattle.std.proofs.Common.{ap, ◌∙◌, arith}
use Rattle.csr_columns.specs.Rows.{turned_rows}
use Rattle.csr_columns.proofs.TurnedRows.{places_below, AreRows-turned, shown-turned}
use Rattle.csr_columns.proofs.arc_columns.ArcColumns.reverse.Goals as goal

pub pick-requires : goal.pick-requires
pick-requires c =
    let turning = rw (c.deref.ensures.value, c.deref-2.ensures.value) at c.in_ok-offsets.ensures in
    rw (c.deref-3.ensures.value, c.deref-4.ensures.value, turning.long) (places_below turning c.self.invariant.below)

pub pick_each-requires : goal.pick_each-requires
pick_each-requires c =
    let turning = rw (c.deref.ensures.value, c.deref-2.ensures.value) at c.in_ok-offsets.ensures in
    let below = places_below turning c.self.invariant.below in
    rw (c.deref-5.ensures.value, c.deref-6.ensures.value) (λ k d h i e i_in. omega (arith, below i e i_in, c.self.invariant.beside k d h))

pub invariant_of-result : goal.invariant_of-result
invariant_of-result c =
    let turning = rw (c.deref.ensures.value, c.deref-2.ensures.value) at c.in_ok-offsets.ensures in
    rw (c.in_ok-pick.ensures 0, c.deref-3.ensures.value, c.deref-4.ensures.value, c.in_ok-try_clone.ensures, c.in_ok-pick_each.ensures, c.deref-5.ensures.value, c.deref-6.ensures.value)
    (AreRows-turned c.self.invariant turning)

pub returns : goal.returns
returns c =
    let turning = rw (c.deref.ensures.value, c.deref-2.ensures.value) at c.in_ok-offsets.ensures in
    rw (c.in_ok-pick.ensures 0, c.deref-3.ensures.value, c.deref-4.ensures.value, c.in_ok-try_clone.ensures, c.in_ok-pick_each.ensures, c.deref-5.ensures.value, c.deref-6.ensures.value)
    (shown-turned c.self.invariant turning ∙ ap turned_rows c.self.view_is)
