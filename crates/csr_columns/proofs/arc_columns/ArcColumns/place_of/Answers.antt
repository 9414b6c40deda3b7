use Rattle.std.proofs.Common.{◌≡◌, ◌<◌, Some, None, MatchOption, IfSome, length, subst}
use Rattle.graph_model.specs.Projection.{under}
use Rattle.csr_columns.specs.Rows.{ArcRows, IsBeside, column_at}
use Rattle.csr_columns.proofs.Shown.{place-shown, beside-found}
use Rattle.csr_columns.proofs.arc_columns.ArcColumns.place_of.Goals as goal

pub returns-clause-place : goal.returns-clause-place
returns-clause-place c =
    let inside = c.self.inside in
    let found = rw c.as_slice.ensures.value at c.place_of.ensures in
    subst (λ (r : ArcRows). MatchOption c.place_of.result (under c.args.key.now r.columns ≡ None) (λ place. (place < length r.columns) × (under c.args.key.now r.columns ≡ Some (column_at r.columns place)))) c.self.view_is
    (place-shown inside.offsets.items inside.targets.items inside.keys inside.columns.items c.args.key.now c.place_of.result c.self.invariant.named found)

pub returns-clause-beside : goal.returns-clause-beside
returns-clause-beside c =
    let inside = c.self.inside in
    let found = rw c.as_slice.ensures.value at c.place_of.ensures in
    subst (λ (r : ArcRows). IfSome c.place_of.result (λ place. IsBeside r.rows (column_at r.columns place))) c.self.view_is
    (beside-found inside.offsets.items inside.targets.items inside.keys inside.columns.items c.args.key.now c.place_of.result c.self.invariant found)
