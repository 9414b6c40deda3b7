use Rattle.std.proofs.Common.{◌≡◌, ℕ, ◌+◌, ◌<◌, List, length, sym, ap, ◌∙◌, arith}
use Rattle.csr_columns.specs.Rows.{ArcRows, row_at}
use Rattle.csr_columns.specs.Offsets.{cut_rows}
use Rattle.csr_columns.proofs.OffsetRows.{offsets_of_row, row_at-cut_rows, All-cut_row, length-cut_rows}
use Rattle.csr_columns.proofs.arc_columns.ArcColumns.row.Goals as goal

pub cut-requires-clause-below : goal.cut-requires-clause-below
cut-requires-clause-below c =
    omega (arith, offsets_of_row c.self.inside.offsets.items c.self.inside.targets.items c.args.self.now.rows c.args.v (ap (λ (r : ArcRows). r.rows) c.self.view_is) c.requires)

pub returns-clause-row : goal.returns-clause-row
returns-clause-row c =
    let is : cut_rows c.self.inside.offsets.items c.self.inside.targets.items ≡ c.args.self.now.rows = ap (λ (r : ArcRows). r.rows) c.self.view_is in
    let within = offsets_of_row c.self.inside.offsets.items c.self.inside.targets.items c.args.self.now.rows c.args.v is c.requires in
    c.cut.ensures ∙ rw (c.deref.ensures.value, c.deref-2.ensures.value) (sym (row_at-cut_rows c.self.inside.offsets.items c.self.inside.targets.items c.args.v within) ∙ ap (λ (rows : List (List ℕ)). row_at rows c.args.v) is)

pub returns-clause-below : goal.returns-clause-below
returns-clause-below c =
    let count = ap (λ (r : ArcRows). length r.rows) c.self.view_is in
    let all = rw (← c.deref-2.ensures.value) at c.self.invariant.below in
    let row = rw (← c.cut.ensures) at (All-cut_row {X = ℕ} (λ (target : ℕ). target + 1 < length c.self.inside.offsets.items) c.deref.result.now c.deref-2.result.now c.args.v all) in
    λ k d h. omega (arith, row k d h, count, length-cut_rows c.self.inside.offsets.items c.self.inside.targets.items)
