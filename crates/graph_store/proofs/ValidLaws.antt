-- A change that is allowed leaves a valid graph within the limits.
use Rattle.std.proofs.Common.{◌≡◌, ℕ, ℤ, ◌+◌, ◌<◌, ◌≤◌, Bool, true, false, cond, eqb, ltb, not, ◌&&◌, List, [], ◌∷◌, ◌++◌, length, map, Option, Some, None, refl, ◌∙◌, suc, zero, inl, inr, arith}
use Rattle.std.specs.Prelude.{IsTrue}
use Rattle.std.specs.Option.{option_map}
use Rattle.std.specs.List.{AllByRecursion, filter, find, flat_map}
use Rattle.std.proofs.lemmas.Bool.{cases_Bool, cases_eq, eq-eqb, ne_eqb, or_right, or_left, ltb-false}
use Rattle.graph_model.specs.declared.graph.Node.{Node}
use Rattle.graph_model.specs.declared.graph.PropertyGraph.{PropertyGraph}
use Rattle.graph_model.specs.declared.change.NewNode.{NewNode}
use Rattle.graph_model.specs.declared.change.NewRel.{NewRel}
use Rattle.graph_model.specs.declared.change.Place.{Place}
use Rattle.graph_model.specs.declared.change.Place.TheVariants.{Old, New}
use Rattle.graph_model.specs.declared.change.Change.{Change}
use Rattle.graph_model.specs.declared.change.Change.TheVariants.{Create, SetNodes, SetRels, DeleteNodes, DeleteRels}
use Rattle.graph_model.specs.declared.refusal.Refusal.TheVariants.{NoSuchEntity, Full}
use Rattle.graph_model.specs.declared.refusal.EntityKind.TheVariants as kind
use Rattle.graph_model.specs.declared.refusal.Quantity.{Quantity}
use Rattle.graph_model.specs.declared.refusal.Quantity.TheVariants as quantity
use Rattle.graph_model.specs.Lists.{Pairwise, first_there}
use Rattle.graph_model.specs.Graph.{most_nodes, most_rels, most_values, value_count, node_lives, is_node, NodeBefore, RelBefore, NodeBelow, RelBelow, EndsLive, HasOrderedLabels, HasOrderedKeys, IsValidGraph, IsWithinLimits}
use Rattle.graph_model.specs.Change.{created_nodes, created_rels, place_id, node_after, rel_after, is_listed, keeps_node, keeps_ends, keeps_rel, after_change, named_id, named_ends, node_missing, missing_entity, over_limit, over_limits, refused_change, last_value, IsDistinctNode, IsDistinctRel, IsPlaceBelow, IsWellFormedChange}
use Rattle.store_tables.proofs.ListFacts.{AllByRecursion-weaker, AllByRecursion-++, AllByRecursion-map, AllByRecursion-filter, Pairwise-map, Pairwise-filter, Pairwise-++, list_any-map, list_any-++}
use Rattle.graph_store.proofs.ValidValues.{labels_ascend, props_ascend, set_if_there_ascends}

-- ---- which nodes live

-- nodes that lived live beside others
lives-++ : (xs ys : List Node) (id : ℕ) → IsTrue (node_lives xs id) → IsTrue (node_lives (xs ++ ys) id)
lives-++ xs ys id lives = list_any-++ (is_node id) xs ys ∙ or_left (node_lives xs id) (node_lives ys id) lives

-- a new node lives
created_lives : (news : List NewNode) (first index id : ℕ) → id ≡ first + index → index < length news → IsTrue (node_lives (created_nodes first news) id)
created_lives [] first index id is within = absurd (omega arith)
created_lives (new ∷ news) first zero id is within = or_left (eqb first id) (node_lives (created_nodes (first + 1) news) id) (eq-eqb first id (omega arith))
created_lives (new ∷ news) first (suc index) id is within =
    or_right (eqb first id) (node_lives (created_nodes (first + 1) news) id) (created_lives news (first + 1) index id (omega arith) (omega arith))

-- nodes that aren't listed stay
lives-kept : (ids : List ℕ) (nodes : List Node) (id : ℕ) → IsTrue (node_lives nodes id) → is_listed ids id ≡ false → IsTrue (node_lives (filter (keeps_node ids) nodes) id)
lives-kept ids [] id lives unlisted = lives
lives-kept ids (node ∷ nodes) id lives unlisted =
    elim (cases_eq node.id id) [
      | inl same ↦ let stays : is_listed ids node.id ≡ false = rw same unlisted in
          rw stays (or_left (eqb node.id id) (node_lives (filter (keeps_node ids) nodes) id) (eq-eqb node.id id same))
      | inr apart ↦ let differs : eqb node.id id ≡ false = ne_eqb node.id id apart in
          let later : IsTrue (node_lives nodes id) = rw differs at lives in
          let rest = lives-kept ids nodes id later unlisted in
          elim (not (is_listed ids node.id)) as (λ b. IsTrue (node_lives (cond b (node ∷ filter (keeps_node ids) nodes) (filter (keeps_node ids) nodes)) id))
          [ true ↦ or_right (eqb node.id id) (node_lives (filter (keeps_node ids) nodes) id) rest | false ↦ rest ]
    ]

-- ---- values are set

nodes_set_valid : (g : PropertyGraph) (key : List ℕ) (pairs : List (ℕ × ℤ)) → IsValidGraph g → IsValidGraph (after_change g (SetNodes key pairs))
nodes_set_valid g key pairs valid = record {
  nodes_ascend = Pairwise-map NodeBefore NodeBefore (node_after key pairs) g.nodes (λ x y before. before) valid.nodes_ascend;
  rels_ascend = valid.rels_ascend;
  node_ids = AllByRecursion-map (NodeBelow g.next_node) (NodeBelow g.next_node) (node_after key pairs) g.nodes (λ x below. below) valid.node_ids;
  rel_ids = valid.rel_ids;
  ends = AllByRecursion-weaker (EndsLive g.nodes) (EndsLive (map (node_after key pairs) g.nodes)) g.rels
      (λ rel live. (list_any-map (is_node rel.source) (node_after key pairs) g.nodes ∙ live.0, list_any-map (is_node rel.target) (node_after key pairs) g.nodes ∙ live.1)) valid.ends;
  node_parts = AllByRecursion-map HasOrderedLabels HasOrderedLabels (node_after key pairs) g.nodes
      (λ node parts. (parts.0, set_if_there_ascends key (last_value pairs node.id) node.props parts.1)) valid.node_parts;
  rel_parts = valid.rel_parts;
}

rels_set_valid : (g : PropertyGraph) (key : List ℕ) (pairs : List (ℕ × ℤ)) → IsValidGraph g → IsValidGraph (after_change g (SetRels key pairs))
rels_set_valid g key pairs valid = record {
  nodes_ascend = valid.nodes_ascend;
  rels_ascend = Pairwise-map RelBefore RelBefore (rel_after key pairs) g.rels (λ x y before. before) valid.rels_ascend;
  node_ids = valid.node_ids;
  rel_ids = AllByRecursion-map (RelBelow g.next_rel) (RelBelow g.next_rel) (rel_after key pairs) g.rels (λ x below. below) valid.rel_ids;
  ends = AllByRecursion-map (EndsLive g.nodes) (EndsLive g.nodes) (rel_after key pairs) g.rels (λ rel live. live) valid.ends;
  node_parts = valid.node_parts;
  rel_parts = AllByRecursion-map HasOrderedKeys HasOrderedKeys (rel_after key pairs) g.rels
      (λ rel parts. set_if_there_ascends key (last_value pairs rel.id) rel.props parts) valid.rel_parts;
}

-- ---- elements go

not_listed : (a b : Bool) → (not a && not b) ≡ true → (a ≡ false) × (b ≡ false)
not_listed true b both = cc
not_listed false true both = cc
not_listed false false both = (refl, refl)

nodes_deleted_valid : (g : PropertyGraph) (ids : List ℕ) → IsValidGraph g → IsValidGraph (after_change g (DeleteNodes ids))
nodes_deleted_valid g ids valid = record {
  nodes_ascend = Pairwise-filter NodeBefore (keeps_node ids) g.nodes valid.nodes_ascend;
  rels_ascend = Pairwise-filter RelBefore (keeps_ends ids) g.rels valid.rels_ascend;
  node_ids = AllByRecursion-filter (keeps_node ids) (NodeBelow g.next_node) (NodeBelow g.next_node) g.nodes (λ x below passes. below) valid.node_ids;
  rel_ids = AllByRecursion-filter (keeps_ends ids) (RelBelow g.next_rel) (RelBelow g.next_rel) g.rels (λ x below passes. below) valid.rel_ids;
  ends = AllByRecursion-filter (keeps_ends ids) (EndsLive g.nodes) (EndsLive (filter (keeps_node ids) g.nodes)) g.rels
      (λ rel live passes. let ends = not_listed (is_listed ids rel.source) (is_listed ids rel.target) passes in
      (lives-kept ids g.nodes rel.source live.0 ends.0, lives-kept ids g.nodes rel.target live.1 ends.1)) valid.ends;
  node_parts = AllByRecursion-filter (keeps_node ids) HasOrderedLabels HasOrderedLabels g.nodes (λ x parts passes. parts) valid.node_parts;
  rel_parts = AllByRecursion-filter (keeps_ends ids) HasOrderedKeys HasOrderedKeys g.rels (λ x parts passes. parts) valid.rel_parts;
}

rels_deleted_valid : (g : PropertyGraph) (ids : List ℕ) → IsValidGraph g → IsValidGraph (after_change g (DeleteRels ids))
rels_deleted_valid g ids valid = record {
  nodes_ascend = valid.nodes_ascend;
  rels_ascend = Pairwise-filter RelBefore (keeps_rel ids) g.rels valid.rels_ascend;
  node_ids = valid.node_ids;
  rel_ids = AllByRecursion-filter (keeps_rel ids) (RelBelow g.next_rel) (RelBelow g.next_rel) g.rels (λ x below passes. below) valid.rel_ids;
  ends = AllByRecursion-filter (keeps_rel ids) (EndsLive g.nodes) (EndsLive g.nodes) g.rels (λ x live passes. live) valid.ends;
  node_parts = valid.node_parts;
  rel_parts = AllByRecursion-filter (keeps_rel ids) HasOrderedKeys HasOrderedKeys g.rels (λ x parts passes. parts) valid.rel_parts;
}

-- ---- elements are made

-- the ids of new nodes lie between the counters before and after
created_node_ids : (news : List NewNode) (first : ℕ) → AllByRecursion (λ node. (first ≤ node.id) × (node.id < first + length news)) (created_nodes first news)
created_node_ids [] first = tt
created_node_ids (new ∷ news) first = (
  (omega arith, omega arith),
  AllByRecursion-weaker _ _ (created_nodes (first + 1) news) (λ node within. (omega (arith, within.0), omega (arith, within.1))) (created_node_ids news (first + 1)),
)

created_rel_ids : (news : List NewRel) (nodes first : ℕ) → AllByRecursion (λ rel. (first ≤ rel.id) × (rel.id < first + length news)) (created_rels nodes first news)
created_rel_ids [] nodes first = tt
created_rel_ids (new ∷ news) nodes first = (
  (omega arith, omega arith),
  AllByRecursion-weaker _ _ (created_rels nodes (first + 1) news) (λ rel within. (omega (arith, within.0), omega (arith, within.1))) (created_rel_ids news nodes (first + 1)),
)

-- and ascend
created_nodes_ascend : (news : List NewNode) (first : ℕ) → Pairwise NodeBefore (created_nodes first news)
created_nodes_ascend [] first = tt
created_nodes_ascend (new ∷ news) first =
    (AllByRecursion-weaker _ _ (created_nodes (first + 1) news) (λ node within. omega (arith, within.0)) (created_node_ids news (first + 1)), created_nodes_ascend news (first + 1))

created_rels_ascend : (news : List NewRel) (nodes first : ℕ) → Pairwise RelBefore (created_rels nodes first news)
created_rels_ascend [] nodes first = tt
created_rels_ascend (new ∷ news) nodes first =
    (AllByRecursion-weaker _ _ (created_rels nodes (first + 1) news) (λ rel within. omega (arith, within.0)) (created_rel_ids news nodes (first + 1)), created_rels_ascend news nodes (first + 1))

-- the labels and values of new elements ascend
created_node_parts : (news : List NewNode) (first : ℕ) → AllByRecursion IsDistinctNode news → AllByRecursion HasOrderedLabels (created_nodes first news)
created_node_parts [] first distinct = tt
created_node_parts (new ∷ news) first distinct =
    ((labels_ascend new.labels distinct.0.0, props_ascend new.props distinct.0.1), created_node_parts news (first + 1) distinct.1)

created_rel_parts : (count : ℕ) (news : List NewRel) (nodes first : ℕ) → AllByRecursion (IsDistinctRel count) news → AllByRecursion HasOrderedKeys (created_rels nodes first news)
created_rel_parts count [] nodes first distinct = tt
created_rel_parts count (new ∷ news) nodes first distinct = (props_ascend new.props distinct.0.2, created_rel_parts count news nodes (first + 1) distinct.1)

-- nothing is found in the two parts of a list where nothing is found in the whole
find-++ : {A : Type 0} (p : A → Bool) (xs ys : List A) → find p (xs ++ ys) ≡ None → (find p xs ≡ None) × (find p ys ≡ None)
find-++ p [] ys none = (refl, none)
find-++ {A} p (x ∷ xs) ys none =
    elim (cases_Bool (p x)) [
      | inl passes ↦ let found : ◌≡◌ {A = Option A} (Some x) None = rw passes at none in cc
      | inr fails ↦ let rest : find p (xs ++ ys) ≡ None = rw fails at none in rw fails (find-++ p xs ys rest)
    ]

-- an id that isn't missing lives
found_lives : (b : Bool) (id : ℕ) → cond (not b) (Some id) None ≡ None → b ≡ true
found_lives true id none = refl
found_lives false id none = cc

-- an end lives among the old and the new nodes
end_lives : (nodes : List Node) (news : List NewNode) (first : ℕ) (place : Place) → IsPlaceBelow (length news) place → find (node_missing nodes) (named_id place) ≡ None → IsTrue (node_lives (nodes ++ created_nodes first news) (place_id first place))
end_lives nodes news first (Old id) below found = lives-++ nodes (created_nodes first news) id (found_lives (node_lives nodes id) id found)
end_lives nodes news first (New index) below found =
    list_any-++ (is_node (first + index)) nodes (created_nodes first news)
    ∙ or_right (node_lives nodes (first + index)) (node_lives (created_nodes first news) (first + index)) (created_lives news first index (first + index) refl below)

created_ends : (nodes : List Node) (news : List NewNode) (rels : List NewRel) (first next : ℕ) → AllByRecursion (IsDistinctRel (length news)) rels → find (node_missing nodes) (flat_map named_ends rels) ≡ None → AllByRecursion (EndsLive (nodes ++ created_nodes first news)) (created_rels first next rels)
created_ends nodes news [] first next distinct found = tt
created_ends nodes news (rel ∷ rels) first next distinct found =
    let parts = find-++ (node_missing nodes) (named_ends rel) (flat_map named_ends rels) found in
    let ends = find-++ (node_missing nodes) (named_id rel.source) (named_id rel.target) parts.0 in (
      (end_lives nodes news first rel.source distinct.0.0 ends.0, end_lives nodes news first rel.target distinct.0.1 ends.1),
      created_ends nodes news rels first (next + 1) distinct.1 parts.1,
    )

created_valid : (g : PropertyGraph) (nodes : List NewNode) (rels : List NewRel) → IsValidGraph g → IsWellFormedChange (Create nodes rels) → find (node_missing g.nodes) (flat_map named_ends rels) ≡ None → IsValidGraph (after_change g (Create nodes rels))
created_valid g nodes rels valid formed found =
    let node_ids = created_node_ids nodes g.next_node in
    let rel_ids = created_rel_ids rels g.next_node g.next_rel in
    record {
      nodes_ascend = Pairwise-++ NodeBefore (NodeBelow g.next_node) g.nodes (created_nodes g.next_node nodes) valid.nodes_ascend (created_nodes_ascend nodes g.next_node) valid.node_ids
          (λ x below. AllByRecursion-weaker _ (NodeBefore x) (created_nodes g.next_node nodes) (λ y within. omega (arith, within, below)) node_ids);
      rels_ascend = Pairwise-++ RelBefore (RelBelow g.next_rel) g.rels (created_rels g.next_node g.next_rel rels) valid.rels_ascend (created_rels_ascend rels g.next_node g.next_rel) valid.rel_ids
          (λ x below. AllByRecursion-weaker _ (RelBefore x) (created_rels g.next_node g.next_rel rels) (λ y within. omega (arith, within, below)) rel_ids);
      node_ids = AllByRecursion-++ (NodeBelow (g.next_node + length nodes)) g.nodes (created_nodes g.next_node nodes)
          (AllByRecursion-weaker _ _ g.nodes (λ x below. omega (arith, below)) valid.node_ids) (AllByRecursion-weaker _ _ (created_nodes g.next_node nodes) (λ x within. within.1) node_ids);
      rel_ids = AllByRecursion-++ (RelBelow (g.next_rel + length rels)) g.rels (created_rels g.next_node g.next_rel rels)
          (AllByRecursion-weaker _ _ g.rels (λ x below. omega (arith, below)) valid.rel_ids) (AllByRecursion-weaker _ _ (created_rels g.next_node g.next_rel rels) (λ x within. within.1) rel_ids);
      ends = AllByRecursion-++ (EndsLive (g.nodes ++ created_nodes g.next_node nodes)) g.rels (created_rels g.next_node g.next_rel rels)
          (AllByRecursion-weaker _ _ g.rels (λ rel live. (lives-++ g.nodes (created_nodes g.next_node nodes) rel.source live.0, lives-++ g.nodes (created_nodes g.next_node nodes) rel.target live.1)) valid.ends)
          (created_ends g.nodes nodes rels g.next_node g.next_rel formed.1 found);
      node_parts = AllByRecursion-++ HasOrderedLabels g.nodes (created_nodes g.next_node nodes) valid.node_parts (created_node_parts nodes g.next_node formed.0);
      rel_parts = AllByRecursion-++ HasOrderedKeys g.rels (created_rels g.next_node g.next_rel rels) valid.rel_parts (created_rel_parts (length nodes) rels g.next_node g.next_rel formed.1);
    }

-- ---- every change

-- what is not refused for a missing element and not for a limit
allowed_parts : {A : Type 0} (a b : Option A) → first_there a b ≡ None → (a ≡ None) × (b ≡ None)
allowed_parts None b none = (refl, none)
allowed_parts (Some x) b none = cc

none_mapped : {A B : Type 0} (f : A → B) (o : Option A) → option_map f o ≡ None → o ≡ None
none_mapped f None none = refl
none_mapped f (Some x) none = cc

-- a count that isn't over its limit
pub not_over : (which : Quantity) (limit count : ℕ) → over_limit which limit count ≡ None → count ≤ limit
not_over which limit count none =
    elim (cases_Bool (ltb limit count)) [
      | inl over ↦ let full : Some (Full which limit 0) ≡ None = rw over at none in cc
      | inr within ↦ ltb-false limit count within
    ]

-- a valid graph is valid after a change that is allowed
pub after_valid : (g : PropertyGraph) (c : Change) → IsValidGraph g → IsWellFormedChange c → refused_change g c ≡ None → IsValidGraph (after_change g c)
after_valid g (Create nodes rels) valid formed allowed =
    let missing = (allowed_parts (missing_entity g (Create nodes rels)) (over_limits (after_change g (Create nodes rels))) allowed).0 in
    let found = find (node_missing g.nodes) (flat_map named_ends rels) in
    let unnamed = allowed_parts (option_map (NoSuchEntity kind.Node) found) None missing in
    created_valid g nodes rels valid formed (none_mapped (NoSuchEntity kind.Node) found unnamed.0)
after_valid g (SetNodes key pairs) valid formed allowed = nodes_set_valid g key pairs valid
after_valid g (SetRels key pairs) valid formed allowed = rels_set_valid g key pairs valid
after_valid g (DeleteNodes ids) valid formed allowed = nodes_deleted_valid g ids valid
after_valid g (DeleteRels ids) valid formed allowed = rels_deleted_valid g ids valid

-- and within the limits
pub after_within : (g : PropertyGraph) (c : Change) → refused_change g c ≡ None → IsWithinLimits (after_change g c)
after_within g c allowed =
    let after = after_change g c in
    let limits = (allowed_parts (missing_entity g c) (over_limits after) allowed).1 in
    let nodes = allowed_parts (over_limit quantity.Nodes most_nodes after.next_node)
    (first_there (over_limit quantity.Rels most_rels after.next_rel) (over_limit quantity.Values most_values (value_count after))) limits in
    let rels = allowed_parts (over_limit quantity.Rels most_rels after.next_rel) (over_limit quantity.Values most_values (value_count after)) nodes.1 in
    record {
      nodes = not_over quantity.Nodes most_nodes after.next_node nodes.0;
      rels = not_over quantity.Rels most_rels after.next_rel rels.0;
      values = not_over quantity.Values most_values (value_count after) rels.1;
    }
