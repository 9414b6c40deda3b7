use Rattle.csr_columns.proofs.Refusing.{key-there}
use Rattle.csr_columns.proofs.projection.Projection.view.Goals as goal

pub heavy_view-made-requires : goal.heavy_view-made-requires
heavy_view-made-requires c =
    let allowed = rw c.in-Some.is at c.in_default.ensures.ok in
    key-there c.args.self.now c.args.labels.now c.args.types.now c.in-Some.key.now allowed
