use Rattle.std.proofs.Common.{◌≡◌, drop}
use Rattle.std.specs.List.{list_all}
use Rattle.projection_spec.specs.Written.{has_source}
use Rattle.projection_spec.proofs.rels.all_have_source.Given as goal

abbrev pub invariant-loop-prop : goal.invariant-loop-prop
invariant-loop-prop l =
    list_all (has_source l.aggregation) l.props ≡ list_all (has_source l.aggregation) (drop l.prop-index l.props)
