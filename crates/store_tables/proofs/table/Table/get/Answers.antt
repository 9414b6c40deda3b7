use Rattle.std.proofs.Common.{◌/◌, length, refl, sym, ◌∙◌, arith}
use Rattle.std.specs.Arc.{arc_value}
use Rattle.std.proofs.lemmas.Option.{slice_get_past, slice_get_read}
use Rattle.store_tables.proofs.Joining.{row_found, row_missing}
use Rattle.store_tables.proofs.table.Table.get.Goals as goal

pub returns-in-Some : goal.returns-in-Some
returns-in-Some g c =
    let branches = c.deref-2.result.now in
    let read = slice_get_read branches (length branches) (c.args.row / 1048576) c.in-Some.branch.now refl c.in-Some.ensures.lookup.3.0 c.in-Some.ensures.lookup.1 in
    let there = rw (c.deref-2.ensures.value, c.deref.ensures) at read in
    rw (← c.self.view_is) (c.get-in-Some.ensures ∙ sym (row_found 1048576 (arc_value c.self.inside.branches).items c.args.row c.in-Some.branch.now (omega arith) c.self.invariant.filled there))

pub returns-in-None : goal.returns-in-None
returns-in-None g c =
    let branches = c.deref-2.result.now in
    let none = rw (c.deref-2.ensures.value, c.deref.ensures) at (slice_get_past branches (c.args.row / 1048576) c.in-None.ensures.lookup.3) in
    rw (← c.self.view_is) (sym (row_missing 1048576 (arc_value c.self.inside.branches).items c.args.row (omega arith) c.self.invariant.filled none))
