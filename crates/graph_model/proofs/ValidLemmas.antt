-- Each kind of change keeps a graph valid.
use Rattle.std.proofs.Common.{◌≡◌, ℕ, ◌+◌, ℤ, Bool, true, false, not, ◌||◌, List, [], ◌∷◌, ◌++◌, map, length, refl, ap, ◌∙◌, arith}
use Rattle.std.specs.List.{AllByRecursion, filter, flat_map}
use Rattle.std.proofs.lemmas.Bool.{and_parts}
use Rattle.graph_model.specs.declared.graph.Node.{Node}
use Rattle.graph_model.specs.declared.graph.Rel.{Rel}
use Rattle.graph_model.specs.declared.graph.PropertyGraph.{PropertyGraph}
use Rattle.graph_model.specs.declared.change.NewNode.{NewNode}
use Rattle.graph_model.specs.declared.change.NewRel.{NewRel}
use Rattle.graph_model.specs.declared.change.Place.{Place}
use Rattle.graph_model.specs.declared.change.Place.TheVariants.{Old, New}
use Rattle.graph_model.specs.declared.change.Change.TheVariants.{Create, SetNodes, SetRels, DeleteNodes, DeleteRels}
use Rattle.graph_model.specs.Graph.{IsValidGraph, is_node, node_lives, NodeBefore, RelBefore, NodeBelow, RelBelow, EndsLive, HasOrderedLabels, HasOrderedKeys}
use Rattle.graph_model.specs.Change.{after_change, created_nodes, created_rels, node_after, rel_after, is_listed, keeps_node, keeps_ends, keeps_rel, place_id, named_id, named_ends, node_missing, IsDistinctNode, IsDistinctRel, IsPlaceBelow}
use Rattle.graph_model.proofs.ListLemmas.{All-map_fact, All-append, All-front, All-back, All-filter, All-kept, Pairwise-kept, Pairwise-append, list_any-append, All-map, Pairwise-map, All-flat_map}
use Rattle.graph_model.proofs.OrderLemmas.{labels_ascend, props_ascend, set_if_there-ascends}
use Rattle.graph_model.proofs.LivingLemmas.{node_lives-kept, node_lives-set, created_nodes-from, created_rels-from, created_nodes-below, created_nodes-ascend, created_nodes-live, created_rels-below, created_rels-ascend}

-- the ends of a relationship that stays live on
ends_kept : (ids : List ℕ) (nodes : List Node) (rel : Rel) → EndsLive nodes rel → keeps_ends ids rel ≡ true → EndsLive (filter (keeps_node ids) nodes) rel
ends_kept ids nodes rel live stays =
    let parts = and_parts (not (is_listed ids rel.source)) (not (is_listed ids rel.target)) stays in (
      node_lives-kept ids nodes rel.source (not_true (is_listed ids rel.source) parts.0) live.0,
      node_lives-kept ids nodes rel.target (not_true (is_listed ids rel.target) parts.1) live.1,
    )
  where
    not_true : (b : Bool) → not b ≡ true → b ≡ false
    not_true true h = absurd cc
    not_true false h = refl

pub valid_without_nodes : (g : PropertyGraph) (ids : List ℕ) → IsValidGraph g → IsValidGraph (after_change g (DeleteNodes ids))
valid_without_nodes g ids valid = record {
  nodes_ascend = Pairwise-kept NodeBefore (keeps_node ids) g.nodes valid.nodes_ascend;
  rels_ascend = Pairwise-kept RelBefore (keeps_ends ids) g.rels valid.rels_ascend;
  node_ids = All-kept (NodeBelow g.next_node) (keeps_node ids) g.nodes valid.node_ids;
  rel_ids = All-kept (RelBelow g.next_rel) (keeps_ends ids) g.rels valid.rel_ids;
  ends = All-filter (EndsLive (filter (keeps_node ids) g.nodes)) (keeps_ends ids) g.rels (All-map_fact g.rels (ends_kept ids g.nodes) valid.ends);
  node_parts = All-kept HasOrderedLabels (keeps_node ids) g.nodes valid.node_parts;
  rel_parts = All-kept HasOrderedKeys (keeps_ends ids) g.rels valid.rel_parts;
}

pub valid_without_rels : (g : PropertyGraph) (ids : List ℕ) → IsValidGraph g → IsValidGraph (after_change g (DeleteRels ids))
valid_without_rels g ids valid = record {
  nodes_ascend = valid.nodes_ascend;
  rels_ascend = Pairwise-kept RelBefore (keeps_rel ids) g.rels valid.rels_ascend;
  node_ids = valid.node_ids;
  rel_ids = All-kept (RelBelow g.next_rel) (keeps_rel ids) g.rels valid.rel_ids;
  ends = All-kept (EndsLive g.nodes) (keeps_rel ids) g.rels valid.ends;
  node_parts = valid.node_parts;
  rel_parts = All-kept HasOrderedKeys (keeps_rel ids) g.rels valid.rel_parts;
}

-- the ends of a relationship live on when values are set
ends_set : (key : List ℕ) (pairs : List (ℕ × ℤ)) (nodes : List Node) (rel : Rel) → EndsLive nodes rel → EndsLive (map (node_after key pairs) nodes) rel
ends_set key pairs nodes rel live =
    (node_lives-set key pairs nodes rel.source ∙ live.0, node_lives-set key pairs nodes rel.target ∙ live.1)

pub valid_with_node_values : (g : PropertyGraph) (key : List ℕ) (pairs : List (ℕ × ℤ)) → IsValidGraph g → IsValidGraph (after_change g (SetNodes key pairs))
valid_with_node_values g key pairs valid = record {
  nodes_ascend = Pairwise-map NodeBefore (node_after key pairs) g.nodes valid.nodes_ascend;
  rels_ascend = valid.rels_ascend;
  node_ids = All-map (NodeBelow g.next_node) (node_after key pairs) g.nodes valid.node_ids;
  rel_ids = valid.rel_ids;
  ends = All-map_fact g.rels (ends_set key pairs g.nodes) valid.ends;
  node_parts = All-map HasOrderedLabels (node_after key pairs) g.nodes (All-map_fact g.nodes (λ node parts. (parts.0, set_if_there-ascends key _ node.props parts.1)) valid.node_parts);
  rel_parts = valid.rel_parts;
}

pub valid_with_rel_values : (g : PropertyGraph) (key : List ℕ) (pairs : List (ℕ × ℤ)) → IsValidGraph g → IsValidGraph (after_change g (SetRels key pairs))
valid_with_rel_values g key pairs valid = record {
  nodes_ascend = valid.nodes_ascend;
  rels_ascend = Pairwise-map RelBefore (rel_after key pairs) g.rels valid.rels_ascend;
  node_ids = valid.node_ids;
  rel_ids = All-map (RelBelow g.next_rel) (rel_after key pairs) g.rels valid.rel_ids;
  ends = All-map (EndsLive g.nodes) (rel_after key pairs) g.rels valid.ends;
  node_parts = valid.node_parts;
  rel_parts = All-map HasOrderedKeys (rel_after key pairs) g.rels (All-map_fact g.rels (λ rel parts. set_if_there-ascends key _ rel.props parts) valid.rel_parts);
}

-- a node that lives still does beside others
lives_before : (nodes more : List Node) (id : ℕ) → node_lives nodes id ≡ true → node_lives (nodes ++ more) id ≡ true
lives_before nodes more id lives = list_any-append (is_node id) nodes more ∙ ap (λ b. b || node_lives more id) lives

lives_behind : (nodes more : List Node) (id : ℕ) → node_lives more id ≡ true → node_lives (nodes ++ more) id ≡ true
lives_behind nodes more id lives =
    list_any-append (is_node id) nodes more ∙ ap (λ b. node_lives nodes id || b) lives ∙ either (node_lives nodes id)
  where
    either : (b : Bool) → (b || true) ≡ true
    either true = refl
    either false = refl

-- no id of these is missing
abbrev NoneMissing : List Node → List ℕ → Type 0
NoneMissing nodes ids = AllByRecursion (λ id. node_missing nodes id ≡ false) ids

-- the end of a new relationship lives after the change
place_lives : (nodes : List Node) (first : ℕ) (news : List NewNode) (place : Place) → IsPlaceBelow (length news) place
    → NoneMissing nodes (named_id place) → node_lives (nodes ++ created_nodes first news) (place_id first place) ≡ true
place_lives nodes first news (Old id) below named = lives_before nodes (created_nodes first news) id (not_false (node_lives nodes id) named.0)
  where
    not_false : (b : Bool) → not b ≡ false → b ≡ true
    not_false true h = refl
    not_false false h = absurd cc
place_lives nodes first news (New index) below named =
    lives_behind nodes (created_nodes first news) (first + index) (created_nodes-live first news index below)

-- the ends of new relationships live after the change
created_rels-ends : (nodes : List Node) (first id : ℕ) (news : List NewNode) (rels : List NewRel) → AllByRecursion (IsDistinctRel (length news)) rels
    → AllByRecursion (λ rel. NoneMissing nodes (named_ends rel)) rels → AllByRecursion (EndsLive (nodes ++ created_nodes first news)) (created_rels first id rels)
created_rels-ends nodes first id news [] formed named = tt
created_rels-ends nodes first id news (rel ∷ rels) formed named =
    let missing = λ (id : ℕ). node_missing nodes id ≡ false in (
      (
        place_lives nodes first news rel.source formed.0.0 (All-front missing (named_id rel.source) (named_id rel.target) named.0),
        place_lives nodes first news rel.target formed.0.1 (All-back missing (named_id rel.source) (named_id rel.target) named.0),
      ),
      created_rels-ends nodes first (id + 1) news rels formed.1 named.1,
    )

created_nodes-parts : (first : ℕ) (news : List NewNode) → AllByRecursion IsDistinctNode news → AllByRecursion HasOrderedLabels (created_nodes first news)
created_nodes-parts first [] formed = tt
created_nodes-parts first (new ∷ news) formed =
    ((labels_ascend new.labels formed.0.0, props_ascend new.props formed.0.1), created_nodes-parts (first + 1) news formed.1)

created_rels-parts : (count first id : ℕ) (rels : List NewRel) → AllByRecursion (IsDistinctRel count) rels → AllByRecursion HasOrderedKeys (created_rels first id rels)
created_rels-parts count first id [] formed = tt
created_rels-parts count first id (rel ∷ rels) formed = (props_ascend rel.props formed.0.2, created_rels-parts count first (id + 1) rels formed.1)

pub valid_with_created : (g : PropertyGraph) (news : List NewNode) (rels : List NewRel) → IsValidGraph g → AllByRecursion IsDistinctNode news
    → AllByRecursion (IsDistinctRel (length news)) rels → AllByRecursion (λ id. node_missing g.nodes id ≡ false) (flat_map named_ends rels)
    → IsValidGraph (after_change g (Create news rels))
valid_with_created g news rels valid nodes_formed rels_formed named =
    let nodes = created_nodes g.next_node news in
    let created = created_rels g.next_node g.next_rel rels in
    let all = g.nodes ++ nodes in
    record {
      nodes_ascend =
          Pairwise-append NodeBefore g.nodes nodes valid.nodes_ascend (created_nodes-ascend g.next_node news)
          (All-map_fact g.nodes (λ node below. created_nodes-from node.id g.next_node news below) valid.node_ids);
      rels_ascend =
          Pairwise-append RelBefore g.rels created valid.rels_ascend (created_rels-ascend g.next_node g.next_rel rels)
          (All-map_fact g.rels (λ rel below. created_rels-from g.next_node rel.id g.next_rel rels below) valid.rel_ids);
      node_ids =
          All-append (NodeBelow (g.next_node + length news)) g.nodes nodes (All-map_fact g.nodes (λ node below. omega arith) valid.node_ids)
          (created_nodes-below g.next_node (g.next_node + length news) news (omega arith));
      rel_ids =
          All-append (RelBelow (g.next_rel + length rels)) g.rels created (All-map_fact g.rels (λ rel below. omega arith) valid.rel_ids)
          (created_rels-below g.next_node g.next_rel (g.next_rel + length rels) rels (omega arith));
      ends =
          All-append (EndsLive all) g.rels created
          (All-map_fact g.rels (λ rel live. (lives_before g.nodes nodes rel.source live.0, lives_before g.nodes nodes rel.target live.1)) valid.ends)
          (created_rels-ends g.nodes g.next_node g.next_rel news rels rels_formed (All-flat_map _ named_ends rels named));
      node_parts = All-append HasOrderedLabels g.nodes nodes valid.node_parts (created_nodes-parts g.next_node news nodes_formed);
      rel_parts = All-append HasOrderedKeys g.rels created valid.rel_parts (created_rels-parts (length news) g.next_node g.next_rel rels rels_formed);
    }
