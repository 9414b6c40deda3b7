use Rattle.std.proofs.Common.{◌≡◌, ◌++◌, ◌∷◌, [], List, Some, None, refl, sym, ap, ◌∙◌, arith}
use Rattle.std.proofs.lemmas.List.{append-nil}
use Rattle.std.specs.List.{filter, find}
use Rattle.std.specs.Option.{option_copied}
use Rattle.graph_model.specs.declared.graph.Node.{Node}
use Rattle.graph_model.specs.Graph.{is_node}
use Rattle.graph_model.specs.ById.{nodes_below}
use Rattle.projection_spec.specs.RawArcs.{is_projected}
use Rattle.projected_nodes.proofs.NodeLemmas.{shown, shown-push, kept-next, found-kept, found-dropped, none-kept}
use Rattle.projected_nodes.proofs.kept.kept_nodes.Goals as goal
use Rattle.projected_nodes.proofs.kept.kept_nodes.Goals.{in-Some+then-is_projected+in_ok-push, in-Some+else-is_projected, in_default}

pub loop-id-preserved : goal.loop-id-preserved
loop-id-preserved c =
    let p = is_projected c.args.entries.now in
    let g = c.args.from.now in
    let id = c.loop-id.id in
    let found = find (is_node id) g.nodes in
    let before = filter p (nodes_below id g) in
    let next = kept-next p g id (c.elements_come_by_id.ensures g c.next_node-id-end.ensures.valid).0 in
    elim c.match-node.branch [
      | in-Some+then-is_projected+in_ok-push w ↦
          let node = w.in-Some.node in
          let is : found ≡ Some node.now = sym c.node.ensures ∙ ap option_copied w.in-Some.is in
          rw w.kept-is (ap shown w.in_ok-push.ensures.items
          ∙ shown-push c.loop-id.kept.items node
          ∙ ap (λ (nodes : List Node). nodes ++ node.now ∷ []) c.loop-id.invariant
          ∙ ap (λ (nodes : List Node). before ++ nodes) (sym (found-kept p found node.now is (sym w.is_projected.ensures ∙ w.if-is_projected.true)))
          ∙ sym next)
      | in-Some+else-is_projected w ↦
          let node = w.in-Some.node in
          let is : found ≡ Some node.now = sym c.node.ensures ∙ ap option_copied w.in-Some.is in
          rw w.kept-is (c.loop-id.invariant
          ∙ sym (append-nil before)
          ∙ ap (λ (nodes : List Node). before ++ nodes) (sym (found-dropped p found node.now is (sym w.is_projected.ensures ∙ w.if-is_projected.false)))
          ∙ sym next)
      | in_default w ↦
          let is : found ≡ None = sym c.node.ensures ∙ ap option_copied w.in_default.is in
          rw w.kept-is (c.loop-id.invariant
          ∙ sym (append-nil before)
          ∙ ap (λ (nodes : List Node). before ++ nodes) (sym (none-kept p found is))
          ∙ sym next)
    ]

pub returns : goal.returns
returns c =
    let p = is_projected c.args.entries.now in
    c.loop-id.invariant
    ∙ ap (λ id. filter p (nodes_below id c.args.from.now)) (omega arith)
    ∙ ap (filter p) (c.elements_come_by_id.ensures c.args.from.now c.next_node-id-end.ensures.valid).0.last
