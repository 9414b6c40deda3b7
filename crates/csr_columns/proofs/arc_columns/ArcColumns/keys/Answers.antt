use Rattle.std.proofs.Common.{◌≡◌, ℕ, ℤ, List, map, sym, subst, ◌∙◌}
use Rattle.csr_columns.specs.Rows.{ArcRows}
use Rattle.csr_columns.proofs.Shown.{keys-shown}
use Rattle.csr_columns.proofs.arc_columns.ArcColumns.keys.Goals as goal

pub returns-clause-keys : goal.returns-clause-keys
returns-clause-keys c =
    let shown = keys-shown c.self.inside.offsets.items c.self.inside.targets.items c.self.inside.keys c.self.inside.columns.items c.self.invariant.named in
    c.as_slice.ensures.value ∙ subst (λ (r : ArcRows). c.self.inside.keys ≡ map (λ (column : List ℕ × List (List ℤ)). column.0) r.columns) c.self.view_is (sym shown)
