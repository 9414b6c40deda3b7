use Rattle.std.proofs.Common.{get_or, pos, rules, arith}
use Rattle.std.proofs.lemmas.Int.{to_z-of_z}
use Rattle.std.specs.Int.{w64}
use Rattle.graph_store.proofs.SettingLemmas.{last_value_more}
use Rattle.graph_store.proofs.setting.last_values.Goals as goal

pub loop-id-preserved : goal.loop-id-preserved
loop-id-preserved c = λ q.
    let pair = get_or c.args.pairs.now c.loop-id.id-index (0, pos 0) in
    let same = to_z-of_z w64 pair.1 (search rules) in
    last_value_more c.args.pairs.now c.loop-id.id-index (0, pos 0) _ _ _ q (omega arith) same (c.loop-id.invariant q) (c.in_ok-insert.ensures.updates.0 q)
