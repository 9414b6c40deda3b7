use Rattle.csr_columns.proofs.Sharing.{IsView-shared}
use Rattle.csr_columns.proofs.projection.Projection.sharing_view.Goals as goal

pub invariant_of-result : goal.invariant_of-result
invariant_of-result c =
    rw (c.in_ok-shared_ids.ensures.ids, c.in_ok-try_clone.ensures)
    (IsView-shared c.args.self.now c.args.types.now c.args.kind.now c.args.weight c.in_ok-shared_ids.ensures.fit c.requires.only c.requires.weighted)
