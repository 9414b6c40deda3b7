use Rattle.std.proofs.Common.{◌≡◌, length, subst, arith}
use Rattle.std.specs.List.{sum_by}
use Rattle.csr_columns.specs.Rows.{ArcRows}
use Rattle.csr_columns.proofs.Shown.{sum-rows-shown}
use Rattle.csr_columns.proofs.arc_columns.ArcColumns.arc_count.Goals as goal

pub returns : goal.returns
returns c =
    let all = sum-rows-shown c.self.inside.offsets.items c.self.inside.targets.items c.self.invariant.cuts in
    subst (λ (r : ArcRows). c.len.result ≡ sum_by length r.rows) c.self.view_is (omega (arith, all))
