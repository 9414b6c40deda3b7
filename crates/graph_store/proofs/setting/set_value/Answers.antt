use Rattle.std.proofs.Common.{arith}
use Rattle.std.proofs.lemmas.Int.{to_z-of_z}
use Rattle.std.specs.Int.{w64}
use Rattle.graph_store.proofs.SettingLemmas.{length-set_prop, sum_by-set_value}
use Rattle.graph_store.proofs.setting.set_value.Goals as goal

pub overflow_sub-added : goal.overflow_sub-added
overflow_sub-added g c =
    let grows = length-set_prop c.args.key.now c.args.value (g.E.Element.props_of c.in-Some.element.now) in
    let same = to_z-of_z w64 c.args.value c.ranges.value in
    rw (c.len.ensures, c.len-2.ensures, c.in_ok-props.ensures, same, c.props.ensures, c.props-2.ensures) grows.0

pub returns-clause-added : goal.returns-clause-added
returns-clause-added g c = λ weight.
    let same = to_z-of_z w64 c.args.value c.ranges.value in
    let element = c.in-Some.element.now in
    rw (c.len.ensures, c.len-2.ensures, c.props-2.ensures)
    (sum_by-set_value g.E.Element.props_of g.E.Element.with_props_of weight c.args.key.now c.args.value c.args.slots.now c.set.new.self c.args.id element c.in_ok-element.element c.in_ok-of.field-0 c.in_ok-props.props
    c.in_ok-set.ensures c.in_ok-of.ensures c.in_ok-element.ensures (g.met.E.Element.props_are element c.in_ok-props.props) c.in-Some.ensures (rw (← c.props.ensures, ← same) c.in_ok-props.ensures))

pub returns-clause-few : goal.returns-clause-few
returns-clause-few g c =
    let grows = length-set_prop c.args.key.now c.args.value (g.E.Element.props_of c.in-Some.element.now) in
    let same = to_z-of_z w64 c.args.value c.ranges.value in
    rw (c.len.ensures, c.len-2.ensures, c.in_ok-props.ensures, same, c.props.ensures, c.props-2.ensures) (omega (arith, grows.1))
