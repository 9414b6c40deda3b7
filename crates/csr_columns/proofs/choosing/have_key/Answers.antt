use Rattle.std.proofs.Common.{◌∙◌, sym, arith}
use Rattle.csr_columns.specs.Choosing.{chooses_kind, has_column}
use Rattle.csr_columns.proofs.Chosen.{all-lacking, all-fitting}
use Rattle.csr_columns.proofs.choosing.have_key.Goals as goal

pub returns-then-lacks : goal.returns-then-lacks
returns-then-lacks c =
    sym (all-lacking (chooses_kind c.args.choice.now) (has_column c.args.key.now) c.args.types.now c.loop-kind.kind-index c.kind-item.result (omega arith) c.kind-item.is c.loop-kind.invariant (sym c.lacks.ensures ∙ c.if-lacks.true))

pub loop-kind-preserved : goal.loop-kind-preserved
loop-kind-preserved c =
    all-fitting (chooses_kind c.args.choice.now) (has_column c.args.key.now) c.args.types.now c.loop-kind.kind-index c.kind-item.result (omega arith) c.kind-item.is c.loop-kind.invariant (sym c.lacks.ensures ∙ c.if-lacks.false)
