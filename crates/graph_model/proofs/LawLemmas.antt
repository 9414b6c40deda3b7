-- The laws of changes.
use Rattle.std.proofs.Common.{◌≡◌, inl, inr, ℕ, ◌≤◌, Bool, false, ◌||◌, Option, Some, None, refl, ◌∙◌, arith, ltb-false}
use Rattle.std.specs.Prelude.{nat_lt}
use Rattle.std.specs.Option.{option_map}
use Rattle.std.specs.List.{AllByRecursion, find}
use Rattle.std.proofs.lemmas.Bool.{cases_Bool}
use Rattle.graph_model.specs.declared.graph.PropertyGraph.{PropertyGraph}
use Rattle.graph_model.specs.declared.change.Change.{Change}
use Rattle.graph_model.specs.declared.change.Change.TheVariants.{Create, SetNodes, SetRels, DeleteNodes, DeleteRels}
use Rattle.graph_model.specs.declared.refusal.Quantity.{Quantity}
use Rattle.graph_model.specs.declared.refusal.Quantity.TheVariants as quantity
use Rattle.graph_model.specs.declared.refusal.EntityKind.TheVariants as kind
use Rattle.graph_model.specs.declared.refusal.Refusal.TheVariants.{NoSuchEntity}
use Rattle.graph_model.specs.Graph.{most_nodes, most_rels, most_values, IsValidGraph, IsWithinLimits, is_node, is_rel, value_count}
use Rattle.graph_model.specs.Change.{after_change, missing_entity, over_limit, over_limits, ChangeFits, named_nodes, node_missing, created_nodes, created_rels, keeps_node, keeps_ends, keeps_rel}
use Rattle.graph_model.specs.ChangeLaws.{FittingChangeKeepsGraph, IdsAreNotUsedAgain}
use Rattle.graph_model.proofs.ListLemmas.{first_there-none, find-none, list_any-append, list_any-kept}
use Rattle.graph_model.proofs.LivingLemmas.{node_lives-set, rel_lives-set, created_nodes-dead, created_rels-dead}
use Rattle.graph_model.proofs.ValidLemmas.{valid_with_created, valid_with_node_values, valid_with_rel_values, valid_without_nodes, valid_without_rels}

-- a quantity that isn't refused is within its limit
within : (which : Quantity) (limit count : ℕ) → over_limit which limit count ≡ None → count ≤ limit
within which limit count none =
    elim (cases_Bool (nat_lt limit count)) [
      | inl over ↦ absurd (let e = rw over at none in cc)
      | inr fits ↦ ltb-false limit count fits
    ]

-- a graph that passes no limit is within the limits
within_limits : (g : PropertyGraph) → over_limits g ≡ None → IsWithinLimits g
within_limits g none =
    let first = first_there-none _ _ none in
    let second = first_there-none _ _ first.1 in
    record {
      nodes = within quantity.Nodes most_nodes g.next_node first.0;
      rels = within quantity.Rels most_rels g.next_rel second.0;
      values = within quantity.Values most_values (value_count g) second.1;
    }

-- nothing is made of nothing
option_map-none : {A B : Type 0} (f : A → B) (o : Option A) → option_map f o ≡ None → o ≡ None
option_map-none f None none = refl
option_map-none f (Some x) none = absurd cc

-- no named node is missing where none is told
none_missing : (g : PropertyGraph) (c : Change) → missing_entity g c ≡ None → AllByRecursion (λ id. node_missing g.nodes id ≡ false) (named_nodes c)
none_missing g c none =
    let nodes = (first_there-none _ _ none).0 in
    find-none (node_missing g.nodes) (named_nodes c) (option_map-none (NoSuchEntity kind.Node) (find (node_missing g.nodes) (named_nodes c)) nodes)

valid_after : (g : PropertyGraph) (c : Change) → IsValidGraph g → ChangeFits g c → IsValidGraph (after_change g c)
valid_after g (Create nodes rels) valid fits =
    let allowed = first_there-none _ _ fits.allowed in
    valid_with_created g nodes rels valid fits.formed.0 fits.formed.1 (none_missing g (Create nodes rels) allowed.0)
valid_after g (SetNodes key pairs) valid fits = valid_with_node_values g key pairs valid
valid_after g (SetRels key pairs) valid fits = valid_with_rel_values g key pairs valid
valid_after g (DeleteNodes ids) valid fits = valid_without_nodes g ids valid
valid_after g (DeleteRels ids) valid fits = valid_without_rels g ids valid

pub fitting_change_keeps_graph : FittingChangeKeepsGraph
fitting_change_keeps_graph g c valid fits =
    (valid_after g c valid fits, within_limits (after_change g c) (first_there-none _ _ fits.allowed).1)

-- what lives neither among some elements nor among others lives in neither
neither : (a b both : Bool) → both ≡ (a || b) → a ≡ false → b ≡ false → both ≡ false
neither a b both is first second = is ∙ rw (first, second) refl

pub ids_are_not_used_again : IdsAreNotUsedAgain
ids_are_not_used_again g (Create nodes rels) = record {
  node_counter = omega arith;
  rel_counter = omega arith;
  nodes = λ id below dead.
      neither _ _ _ (list_any-append (is_node id) g.nodes (created_nodes g.next_node nodes)) dead (created_nodes-dead g.next_node nodes id below);
  rels = λ id below dead.
      neither _ _ _ (list_any-append (is_rel id) g.rels (created_rels g.next_node g.next_rel rels)) dead
      (created_rels-dead g.next_node g.next_rel rels id below);
}
ids_are_not_used_again g (SetNodes key pairs) = record {
  node_counter = omega arith;
  rel_counter = omega arith;
  nodes = λ id below dead. node_lives-set key pairs g.nodes id ∙ dead;
  rels = λ id below dead. dead;
}
ids_are_not_used_again g (SetRels key pairs) = record {
  node_counter = omega arith;
  rel_counter = omega arith;
  nodes = λ id below dead. dead;
  rels = λ id below dead. rel_lives-set key pairs g.rels id ∙ dead;
}
ids_are_not_used_again g (DeleteNodes ids) = record {
  node_counter = omega arith;
  rel_counter = omega arith;
  nodes = λ id below dead. list_any-kept (is_node id) (keeps_node ids) g.nodes dead;
  rels = λ id below dead. list_any-kept (is_rel id) (keeps_ends ids) g.rels dead;
}
ids_are_not_used_again g (DeleteRels ids) = record {
  node_counter = omega arith;
  rel_counter = omega arith;
  nodes = λ id below dead. dead;
  rels = λ id below dead. list_any-kept (is_rel id) (keeps_rel ids) g.rels dead;
}
