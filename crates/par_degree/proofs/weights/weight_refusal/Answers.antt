use Rattle.std.proofs.Common.{length, sym, ap, ◌∙◌, subst, arith}
use Rattle.csr_columns.specs.Rows.{ArcRows, HasColumnsBeside}
use Rattle.csr_columns.proofs.ViewRows.{weights-beside}
use Rattle.par_degree.proofs.Rows.{refusal-found, refusal-none}
use Rattle.par_degree.proofs.weights.weight_refusal.Goals as goal

pub returns-then-is_some : goal.returns-then-is_some
returns-then-is_some c =
    let beside = weights-beside c.args.view.now (subst HasColumnsBeside c.arcs.ensures.arcs c.node_count-v-end.ensures.beside) c.arcs.ensures.weights in
    refusal-found c.args.view.now beside c.loop-v.v c.row_refusal-refusal.result
    (omega (arith, c.loop-v-test.true, c.node_count-v-end.ensures.nodes, ap (λ (arcs : ArcRows). length arcs.rows) c.arcs.ensures.arcs))
    c.loop-v.invariant c.row_refusal-refusal.ensures (sym c.is_some.ensures ∙ c.if-is_some.true)

pub returns : goal.returns
returns c =
    let beside = weights-beside c.args.view.now (subst HasColumnsBeside c.arcs.ensures.arcs c.node_count-v-end.ensures.beside) c.arcs.ensures.weights in
    sym (refusal-none c.args.view.now beside (λ u below. c.loop-v.invariant u (omega (arith, below, c.loop-v-test.false, c.node_count-v-end.ensures.nodes, ap (λ (arcs : ArcRows). length arcs.rows) c.arcs.ensures.arcs))))
