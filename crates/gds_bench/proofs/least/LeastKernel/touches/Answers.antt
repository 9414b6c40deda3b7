use Rattle.std.proofs.Common.{length, ap, arith}
use Rattle.csr_columns.specs.Rows.{ArcRows}
use Rattle.gds_bench.specs.LeastLaws.{length-turned}
use Rattle.gds_bench.proofs.least.LeastKernel.touches.Goals as goal

pub row-requires : goal.row-requires
row-requires c =
    let kernel = c.args.self.now in
    omega (arith, c.requires.in_range, ap (λ (arcs : ArcRows). length arcs.rows) kernel.turned, length-turned kernel.rows)
