use Rattle.csr_columns.proofs.Viewed.{viewed-bare}
use Rattle.csr_columns.proofs.projection.Projection.bare_copy.Goals as goal

pub returns : goal.returns
returns c =
    let rows = rw (c.types-types_of.ensures.types) at c.types-types_of.ensures.rows in
    let below = rw (c.types-types_of.ensures.types) at c.in_ok-arcs.ensures.below in
    let arcs = rw (c.types-types_of.ensures.types, c.len.ensures, c.deref.ensures.value, c.in_ok-ids.ensures.ids, c.in_ok-ids.ensures.places) at c.in_ok-arcs.ensures.arcs in
    rw (c.in_ok-new.ensures, c.in_ok-new-2.ensures, c.in_ok-directed.ensures, c.types.ensures.types, c.in_ok-ids.ensures.ids)
    (viewed-bare c.args.self.now c.args.labels.now c.args.types.now c.in_ok-ids.ensures.sorted rows below c.in_ok-arcs.arcs arcs)
