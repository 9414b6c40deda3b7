use Rattle.std.proofs.Common.{◌≡◌, ◌<◌, ℕ, ℤ, List, length, ap, sym, subst, ◌∙◌, arith}
use Rattle.csr_columns.specs.Rows.{ArcRows, row_at, column_at}
use Rattle.csr_columns.specs.Offsets.{cut_row}
use Rattle.csr_columns.proofs.OffsetRows.{offsets_of_row, row_at-cut_rows}
use Rattle.csr_columns.proofs.Shown.{length-columns-shown, length-cut_row, values-shown}
use Rattle.csr_columns.proofs.arc_columns.ArcColumns.values.Goals as goal

pub index-requires : goal.index-requires
index-requires c =
    let inside = c.self.inside in
    omega (arith, ap (λ (r : ArcRows). length r.columns) c.self.view_is, length-columns-shown inside.offsets.items inside.targets.items inside.keys inside.columns.items c.self.invariant.named)

pub cut-requires-clause-cuts : goal.cut-requires-clause-cuts
cut-requires-clause-cuts c =
    let inside = c.self.inside in
    let within : c.args.place < length inside.columns.items = omega (arith, ap (λ (r : ArcRows). length r.columns) c.self.view_is, length-columns-shown inside.offsets.items inside.targets.items inside.keys inside.columns.items c.self.invariant.named) in
    let long : length c.as_slice.result.now ≡ length inside.targets.items = c.as_slice.ensures.len ∙ ap (λ (xs : List ℤ). length xs) c.index.ensures ∙ c.self.invariant.beside c.args.place c.index.result.now within in
    rw (c.deref.ensures.value, long) c.self.invariant.cuts

pub cut-requires-clause-below : goal.cut-requires-clause-below
cut-requires-clause-below c =
    omega (arith, offsets_of_row c.self.inside.offsets.items c.self.inside.targets.items c.args.self.now.rows c.args.v (ap (λ (r : ArcRows). r.rows) c.self.view_is) c.requires.node)

pub returns-clause-values : goal.returns-clause-values
returns-clause-values c =
    let inside = c.self.inside in
    let place_in : c.args.place < length inside.columns.items = omega (arith, ap (λ (r : ArcRows). length r.columns) c.self.view_is, length-columns-shown inside.offsets.items inside.targets.items inside.keys inside.columns.items c.self.invariant.named) in
    let node_in = offsets_of_row inside.offsets.items inside.targets.items c.args.self.now.rows c.args.v (ap (λ (r : ArcRows). r.rows) c.self.view_is) c.requires.node in
    c.cut.ensures
    ∙ rw (c.deref.ensures.value, c.as_slice.ensures.value)
    (subst (λ (r : ArcRows). cut_row inside.offsets.items c.index.result.now c.args.v ≡ row_at (column_at r.columns c.args.place) c.args.v) c.self.view_is
    (values-shown inside.offsets.items inside.targets.items inside.keys inside.columns.items c.args.place c.args.v c.index.result.now c.self.invariant.named place_in c.index.ensures node_in))

pub returns-clause-beside : goal.returns-clause-beside
returns-clause-beside c =
    let inside = c.self.inside in
    let place_in : c.args.place < length inside.columns.items = omega (arith, ap (λ (r : ArcRows). length r.columns) c.self.view_is, length-columns-shown inside.offsets.items inside.targets.items inside.keys inside.columns.items c.self.invariant.named) in
    let node_in = offsets_of_row inside.offsets.items inside.targets.items c.args.self.now.rows c.args.v (ap (λ (r : ArcRows). r.rows) c.self.view_is) c.requires.node in
    let long = ap (λ (xs : List ℤ). length xs) c.index.ensures ∙ c.self.invariant.beside c.args.place c.index.result.now place_in in
    ap (λ (xs : List ℤ). length xs) c.cut.ensures
    ∙ rw (c.deref.ensures.value, c.as_slice.ensures.value)
    (length-cut_row inside.offsets.items c.index.result.now inside.targets.items c.args.v long
    ∙ ap (λ (xs : List ℕ). length xs) (sym (row_at-cut_rows inside.offsets.items inside.targets.items c.args.v node_in) ∙ ap (λ (r : ArcRows). row_at r.rows c.args.v) c.self.view_is))
