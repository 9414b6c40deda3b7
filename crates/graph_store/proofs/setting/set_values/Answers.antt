use Rattle.std.proofs.Common.{◌≡◌, ◌+◌, ◌++◌, [], ◌∷◌, map, take, get_or, pos, sym, ◌∙◌, rules, arith}
use Rattle.std.specs.Int.{w64}
use Rattle.std.specs.Ordering.{nat_cmp}
use Rattle.std.specs.BTreeMap.{get}
use Rattle.std.proofs.lemmas.List.{map_more, take_all}
use Rattle.std.proofs.lemmas.Int.{to_z-of_z}
use Rattle.graph_model.specs.Change.{pair_id}
use Rattle.graph_store.proofs.EditLemmas.{IsSetSoFar-none, IsSetSoFar-more, IsSetSoFar-again, IsSetSoFar-all}
use Rattle.graph_store.proofs.setting.set_values.Goals as goal
use Rattle.graph_store.proofs.setting.set_values.Goals.{in-Some+in_ok-added, in_default}

pub loop-id-init : goal.loop-id-init
loop-id-init g c = (
  IsSetSoFar-none g.E.Element.id_of g.E.Element.props_of g.E.Element.with_props_of c.args.key.now c.args.pairs.now (get nat_cmp c.in_ok-last.last) c.args.slots.now c.in_ok-last.ensures,
  omega arith,
)

pub loop-id-preserved : goal.loop-id-preserved
loop-id-preserved g c =
    let pairs = c.args.pairs.now in
    let row = c.loop-id.id-index in
    let pair = get_or pairs row (0, pos 0) in
    let ids = map pair_id (take row pairs) in
    let more : map pair_id (take (row + 1) pairs) ≡ ids ++ pair.0 ∷ [] = map_more pair_id pairs row (0, pos 0) c.loop-id-test.true in
    let id_of = g.E.Element.id_of in
    let props_of = g.E.Element.props_of in
    let with_props = g.E.Element.with_props_of in
    let before = c.args.slots.now in
    let last = get nat_cmp c.loop-id.last in
    let left = get nat_cmp c.remove.new.self in
    elim c.match-remove.branch [
      | in-Some+in_ok-added w ↦ rw (more, w.slots-is, w.added-is) (
        IsSetSoFar-more id_of props_of with_props c.args.key.now pairs ids last before c.loop-id.slots c.loop-id.added pair.0 w.in-Some.value left w.set_value.new.slots w.in_ok-added.field-0
            c.requires c.loop-id.invariant.0 (sym w.in-Some.is ∙ c.remove.ensures.value) (λ other. c.remove.ensures.updates.0 other) (let same = to_z-of_z w64 w.in-Some.value (search rules) in rw same at w.in_ok-added.ensures.set) w.in_ok-added.ensures.added,
        omega (arith, w.in_ok-added.ensures.few),
      )
      | in_default w ↦ rw (more, w.slots-is, w.added-is) (
        IsSetSoFar-again id_of props_of with_props c.args.key.now pairs ids last before c.loop-id.slots c.loop-id.added pair.0 left
            g.met.E.Element.own_props c.loop-id.invariant.0 (sym w.in_default.is ∙ c.remove.ensures.value) (λ other. c.remove.ensures.updates.0 other),
        omega arith,
      )
    ]

pub returns-clause-set : goal.returns-clause-set
returns-clause-set g c =
    let pairs = c.args.pairs.now in
    let all : take c.loop-id.id-index pairs ≡ pairs = take_all c.loop-id.id-index pairs (omega arith) in
    IsSetSoFar-all g.E.Element.id_of g.E.Element.props_of g.E.Element.with_props_of c.args.key.now pairs (get nat_cmp c.loop-id.last) c.args.slots.now c.loop-id.slots c.loop-id.added
    g.met.E.Element.own_props (rw all at c.loop-id.invariant.0)

pub returns-clause-added : goal.returns-clause-added
returns-clause-added g c = c.loop-id.invariant.0.counted
