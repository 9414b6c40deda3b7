use Rattle.std.proofs.Common.{◌≡◌, map, drop}
use Rattle.std.specs.List.{list_any}
use Rattle.projection_spec.specs.Written.{rule_in}
use Rattle.projection_spec.specs.Projected.{is_grouping}
use Rattle.projection_spec.proofs.settled.has_grouping.Given as goal

abbrev pub invariant-loop-prop : goal.invariant-loop-prop
invariant-loop-prop l =
    list_any is_grouping (map (rule_in l.aggregation) l.props) ≡ list_any is_grouping (map (rule_in l.aggregation) (drop l.prop-index l.props))
