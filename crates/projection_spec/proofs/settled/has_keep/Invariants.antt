use Rattle.std.proofs.Common.{◌≡◌, map, drop}
use Rattle.std.specs.List.{list_any}
use Rattle.projection_spec.specs.Written.{rule_in}
use Rattle.projection_spec.specs.Projected.{is_keep}
use Rattle.projection_spec.proofs.settled.has_keep.Given as goal

abbrev pub invariant-loop-prop : goal.invariant-loop-prop
invariant-loop-prop l =
    list_any is_keep (map (rule_in l.aggregation) l.props) ≡ list_any is_keep (map (rule_in l.aggregation) (drop l.prop-index l.props))
