use Rattle.std.proofs.Common.{ℤ, length, ap, arith}
use Rattle.csr_columns.specs.Parts.{IsLong}
use Rattle.csr_columns.specs.declared.parts.Parts.{Parts}
use Rattle.csr_columns.proofs.PartsRead.{All-under}
use Rattle.csr_columns.proofs.projection.Projection.value.Goals as goal

pub item-requires : goal.item-requires
item-requires c =
    let found = rw (c.as_slice.ensures.value, c.as_slice-2.ensures.value) at c.in-Some.ensures in
    let long = All-under (IsLong {A = ℤ} (length c.self.inside.ids)) c.args.key.now _ c.in-Some.column.now c.self.invariant.fit.values found in
    omega (arith, long, ap (λ (p : Parts). length p.ids) c.self.view_is)
