use Rattle.std.proofs.Common.{ap, sym, ◌∙◌}
use Rattle.csr_columns.specs.Rows.{turned_rows}
use Rattle.csr_columns.proofs.Mirrored.{turned-mirrored}
use Rattle.csr_columns.proofs.arc_columns.ArcColumns.is_mirrored.Goals as goal

pub returns : goal.returns
returns c =
    let inside = c.self.inside in
    let mirrored = rw (c.deref.ensures.value, c.deref-2.ensures.value, c.deref-3.ensures.value) at c.in_ok-same.ensures in
    λ yes.
    ap turned_rows (sym c.self.view_is)
    ∙ turned-mirrored inside.offsets.items inside.targets.items c.self.invariant.cuts inside.keys inside.columns.items c.self.invariant.beside (mirrored yes)
    ∙ c.self.view_is
