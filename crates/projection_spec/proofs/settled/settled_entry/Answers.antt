use Rattle.projection_spec.proofs.RuleLemmas.{rules_fit}
use Rattle.projection_spec.proofs.settled.settled_entry.Goals as goal

pub invariant_of-result : goal.invariant_of-result
invariant_of-result c =
    rw (c.is_grouped-grouped.ensures, c.in_ok-props.ensures) (rules_fit c.args.entry c.requires.sources c.requires.settles)
