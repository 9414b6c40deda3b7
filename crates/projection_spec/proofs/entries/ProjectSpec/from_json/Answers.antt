use Rattle.std.proofs.Common.{◌≡◌, Some}
use Rattle.serde_json.specs.View.{view}
use Rattle.projection_spec.specs.Written.{node_entries, written_entries}
use Rattle.projection_spec.specs.Projected.{all_nodes, all_rels}
use Rattle.projection_spec.proofs.AscendLemmas.{spec_ascends, all_rels-sources}
use Rattle.projection_spec.proofs.entries.ProjectSpec.from_json.Goals as goal

pub settled_entries-requires : goal.settled_entries-requires
settled_entries-requires c =
    let full : all_rels c.in_ok-own_rels.own_rels (view c.args.config.now) ≡ Some c.in_ok-written.written = rw c.in_ok-written.ensures.ok at c.all_rels.ensures.ok in
    all_rels-sources c.in_ok-own_rels.own_rels c.in_ok-written.written (view c.args.config.now) full

pub invariant_of-result : goal.invariant_of-result
invariant_of-result c =
    let own_nodes : node_entries (view c.args.nodes.now) ≡ Some c.in_ok-own_nodes.own_nodes = rw c.in_ok-own_nodes.ensures.ok at c.node_entries.ensures.ok in
    let own_rels : written_entries (view c.args.rels.now) ≡ Some c.in_ok-own_rels.own_rels = rw c.in_ok-own_rels.ensures.ok at c.written_entries.ensures.ok in
    let nodes : all_nodes c.in_ok-own_nodes.own_nodes (view c.args.config.now) ≡ Some c.in_ok-nodes.nodes = rw c.in_ok-nodes.ensures.ok at c.all_nodes.ensures.ok in
    let rels : all_rels c.in_ok-own_rels.own_rels (view c.args.config.now) ≡ Some c.in_ok-written.written = rw c.in_ok-written.ensures.ok at c.all_rels.ensures.ok in
    rw (c.in-Ok.ensures.ok.0)
    (spec_ascends (view c.args.nodes.now) (view c.args.rels.now) (view c.args.config.now) c.in_ok-own_nodes.own_nodes c.in_ok-nodes.nodes c.in_ok-own_rels.own_rels c.in_ok-written.written own_nodes own_rels nodes rels)
