use Rattle.std.proofs.Common.{sym, ap, ◌∙◌, length}
use Rattle.user_catalog.proofs.Places.{written_back}
use Rattle.user_catalog.proofs.Valid.{catalog-if_widened}
use Rattle.user_catalog.proofs.catalog.Catalog.add_column.Goals as goal

pub invariant_of-self : goal.invariant_of-self
invariant_of-self c =
    let items = c.self.inside.entries.items in
    let value = c.as_mut_slice.ensures.value in
    let len = c.as_mut_slice.ensures.len in
    let auto = c.widen.auto.entries in
    rw (written_back c.self.inside.entries.len items c.widen.new.entries (sym c.as_mut_slice.ensures.len ∙ ap length value) (c.widen.auto.entries ∙ ap length value))
    (catalog-if_widened c.self.inside.last items c.widen.new.entries c.args.name.now c.args.key c.args.column.now c.widen.result
    (rw value at c.widen.ensures.ok) (rw value at c.widen.ensures.err) c.self.invariant)
