use Rattle.std.proofs.Common.{◌≡◌, ◌∷◌, ap, ◌∙◌, sym}
use Rattle.std.proofs.lemmas.List.Elements.{All-drop}
use Rattle.projection_spec.specs.RawArcs.{ArcInOrder}
use Rattle.projection_spec.specs.KeptArcs.{groups_of, kept_groups}
use Rattle.rel_aggregate.specs.Groups.{HasCells, group_from}
use Rattle.rel_aggregate.proofs.Rest.{onto, group_step, Pairwise-drop}
use Rattle.rel_aggregate.proofs.groups.keep_groups.Goals as goal

pub loop-rest-preserved : goal.loop-rest-preserved
loop-rest-preserved c =
    let props = c.args.props.now in
    let count = c.first_group_length.result in
    let rest = c.loop-rest.rest.now in
    let members = c.split_at.result.0.now in
    let later = c.split_at.result.1.now in
    let parts : group_from members ∷ groups_of c.args.grouped later ≡ groups_of c.args.grouped rest = rw (c.split_at.ensures.front, c.split_at.ensures.back) (sym c.first_group_length.ensures.cut) in (
      rw c.in_ok-push.ensures.ok (group_step c.loop-rest.kept props members (groups_of c.args.grouped later) c.in_ok-keep_group.field-0 c.in_ok-keep_group.ensures.ok ∙ ap (λ groups. onto c.loop-rest.kept (kept_groups props groups)) parts ∙ c.loop-rest.invariant.0),
      rw c.split_at.ensures.back (Pairwise-drop ArcInOrder count rest c.loop-rest.invariant.1),
      rw c.split_at.ensures.back (All-drop (HasCells props) count rest c.loop-rest.invariant.2),
    )
