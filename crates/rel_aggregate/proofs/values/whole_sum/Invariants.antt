use Rattle.std.proofs.Common.{◌≡◌, ◌*◌, take, pos, neg_ℤ, ◌≤ℤ◌, ◌+ℤ◌, unwrap_or}
use Rattle.std.specs.List.{reduce}
use Rattle.projection_spec.specs.KeptArcs.{known_values}
use Rattle.rel_aggregate.proofs.values.whole_sum.Given as goal

abbrev pub invariant-loop-arc : goal.invariant-loop-arc
invariant-loop-arc l =
    (l.sum ≡ reduce ◌+ℤ◌ (known_values l.place l.default (take l.arc-index l.arcs))) × (neg_ℤ (pos (9223372036854775808 * l.arc-index)) ≤ℤ unwrap_or l.sum (pos 0)) × (unwrap_or l.sum (pos 0) ≤ℤ pos (9223372036854775808 * l.arc-index))
