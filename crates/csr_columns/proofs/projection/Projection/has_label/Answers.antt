use Rattle.std.proofs.Common.{Bool, length, ap, arith}
use Rattle.csr_columns.specs.Parts.{IsLong}
use Rattle.csr_columns.specs.declared.parts.Parts.{Parts}
use Rattle.csr_columns.proofs.PartsRead.{All-under}
use Rattle.csr_columns.proofs.projection.Projection.has_label.Goals as goal

pub bounds-flags-v : goal.bounds-flags-v
bounds-flags-v c =
    let found = rw (c.as_slice.ensures.value, c.as_slice-2.ensures.value) at c.in-Some.ensures in
    let long = All-under (IsLong {A = Bool} (length c.self.inside.ids)) c.args.label.now _ c.in-Some.flags.now c.self.invariant.fit.flags found in
    omega (arith, long, ap (λ (p : Parts). length p.ids) c.self.view_is)
