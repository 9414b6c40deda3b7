use Rattle.std.proofs.Common.{rules, w64, to_z-of_z, ◌∙◌, arith}
use Rattle.graph_model.specs.Degrees.{degree_of}
use Rattle.csr_columns.specs.ViewParts.{plain_view_of}
use Rattle.par_degree.proofs.Rows.{step-more}
use Rattle.par_degree.proofs.counting.count_part.Goals as goal

pub loop-v-preserved : goal.loop-v-preserved
loop-v-preserved c =
    let view = c.args.view.now in
    let same = to_z-of_z {w = w64} {z = c.degree_at.result} (search rules) in
    step-more (degree_of (plain_view_of view)) view.ids c.loop-v.step c.args.from c.loop-v.v _
    (omega (arith, c.loop-v.auto.v))
    (omega (arith, c.loop-v-test.true, c.requires.within))
    (omega (arith, c.loop-v-test.true, c.requires.long, c.loop-v.auto.step, c.loop-v.auto.v)) c.loop-v.invariant (same ∙ c.degree_at.ensures)
