use Rattle.std.proofs.Common.{◌≡◌, ◌+◌, ◌-◌, ◌^◌, min, sum_by, take}
use Rattle.graph_store.specs.Missing.{new_node_values, new_rel_values}
use Rattle.graph_store.proofs.checks.new_value_count.Given as goal

abbrev pub invariant-loop-node : goal.invariant-loop-node
invariant-loop-node l = l.count ≡ min (2 ^ 64 - 1) (sum_by new_node_values (take l.node-index l.nodes))

abbrev pub invariant-loop-rel : goal.invariant-loop-rel
invariant-loop-rel l = l.count ≡ min (2 ^ 64 - 1) (sum_by new_node_values l.nodes + sum_by new_rel_values (take l.rel-index l.rels))
