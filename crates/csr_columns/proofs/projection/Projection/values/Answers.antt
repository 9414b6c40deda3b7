use Rattle.std.proofs.Common.{ℤ, length, ap, ◌∙◌}
use Rattle.csr_columns.specs.Parts.{IsLong}
use Rattle.csr_columns.specs.declared.parts.Parts.{Parts}
use Rattle.csr_columns.proofs.PartsRead.{All-under}
use Rattle.csr_columns.proofs.projection.Projection.values.Goals as goal

pub returns-in-Some-clause-long : goal.returns-in-Some-clause-long
returns-in-Some-clause-long c =
    let found = rw (c.as_slice.ensures.value, c.as_slice-2.ensures.value) at c.in-Some.ensures in
    All-under (IsLong {A = ℤ} (length c.self.inside.ids)) c.args.key.now _ c.in-Some.values.now c.self.invariant.fit.values found
    ∙ ap (λ (p : Parts). length p.ids) c.self.view_is
