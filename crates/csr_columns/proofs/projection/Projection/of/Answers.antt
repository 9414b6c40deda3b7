use Rattle.csr_columns.proofs.PartsRead.{shown-apart, AreColumns-apart}
use Rattle.csr_columns.proofs.projection.Projection.of.Goals as goal

pub invariant_of-result : goal.invariant_of-result
invariant_of-result c =
    rw (c.labels.view_is, c.keys.view_is, c.in_ok-new.ensures, c.in_ok-labels.ensures.keys, c.in_ok-share_each.ensures, c.in_ok-labels.ensures.columns, c.in_ok-keys.ensures.keys, c.in_ok-share_each-2.ensures, c.in_ok-keys.ensures.columns, c.in_ok-new-2.ensures)
    (AreColumns-apart c.args.parts c.requires)

pub returns : goal.returns
returns c =
    rw (c.labels.view_is, c.keys.view_is, c.in_ok-new.ensures, c.in_ok-labels.ensures.keys, c.in_ok-share_each.ensures, c.in_ok-labels.ensures.columns, c.in_ok-keys.ensures.keys, c.in_ok-share_each-2.ensures, c.in_ok-keys.ensures.columns, c.in_ok-new-2.ensures)
    (shown-apart c.args.parts)
