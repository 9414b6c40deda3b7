use Rattle.std.proofs.Common.{◌∙◌, sym, arith}
use Rattle.csr_columns.proofs.Chosen.{is_among-found, is_among-next}
use Rattle.csr_columns.proofs.choosing.is_type.Goals as goal

pub returns-then-eq : goal.returns-then-eq
returns-then-eq c =
    sym (is_among-found c.args.types.now c.args.name.now c.loop-kind.kind-index c.kind-item.result (omega arith) c.kind-item.is c.loop-kind.invariant (sym c.eq.ensures ∙ c.if-eq.true))

pub loop-kind-preserved : goal.loop-kind-preserved
loop-kind-preserved c =
    is_among-next c.args.types.now c.args.name.now c.loop-kind.kind-index c.kind-item.result (omega arith) c.kind-item.is c.loop-kind.invariant (sym c.eq.ensures ∙ c.if-eq.false)
