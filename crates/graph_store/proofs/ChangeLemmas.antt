-- What becomes of the slots is what becomes of the graph.
use Rattle.std.proofs.Common.{◌≡◌, ℕ, ℤ, ◌+◌, ◌-◌, ◌≤◌, Bool, cond, not, List, [], ◌∷◌, ◌++◌, length, map, sum_by, Option, Some, None, is_some, refl, suc, zero, true, false, inl, inr, sym, ◌∙◌, ap, subst, arith}
use Rattle.std.proofs.lemmas.Bool.{cases_Bool, le-ltb}
use Rattle.std.specs.Option.{option_map}
use Rattle.std.specs.Prelude.{IsTrue}
use Rattle.std.specs.List.{AllByRecursion, find, filter, flat_map}
use Rattle.std.proofs.lemmas.List.{length-append, length-map}
use Rattle.std.proofs.lemmas.List.Sums.{sum_by-cons, sum_by-append}
use Rattle.graph_model.specs.declared.graph.Node.{Node}
use Rattle.graph_model.specs.declared.graph.Rel.{Rel}
use Rattle.graph_model.specs.declared.graph.PropertyGraph.{PropertyGraph}
use Rattle.graph_model.specs.declared.change.NewNode.{NewNode}
use Rattle.graph_model.specs.declared.change.NewRel.{NewRel}
use Rattle.graph_model.specs.declared.change.Change.{Change}
use Rattle.graph_model.specs.declared.change.Change.TheVariants.{Create, SetNodes, SetRels, DeleteNodes, DeleteRels}
use Rattle.graph_model.specs.declared.change.ChangeReply.TheVariants.{Deleted}
use Rattle.graph_model.specs.declared.refusal.Refusal.{Refusal}
use Rattle.graph_model.specs.declared.refusal.Refusal.TheVariants.{NoSuchEntity, Mem}
use Rattle.graph_model.specs.Refusals.{UnlessMem}
use Rattle.graph_model.specs.declared.refusal.EntityKind.TheVariants as kind
use Rattle.graph_model.specs.declared.refusal.Quantity.{Quantity}
use Rattle.graph_model.specs.declared.refusal.Quantity.TheVariants as quantity
use Rattle.graph_model.specs.Lists.{first_there, insert_in_order, in_order}
use Rattle.graph_model.specs.Graph.{most_nodes, most_rels, most_values, value_count, node_value_count, rel_value_count, node_lives, is_node, is_rel, EndsLive}
use Rattle.graph_model.specs.Change.{created_nodes, created_rels, named_ends, key_before, is_listed, pair_id, node_after, rel_after, keeps_node, keeps_ends, keeps_rel, after_change, change_answer, named_nodes, named_rels, node_missing, rel_missing, over_limit, refused_change, IsWellFormedChange}
use Rattle.store_tables.specs.Slots.{slot_at, living, IsNumbered, kept, slot_count}
use Rattle.graph_store.specs.Stored.{node_id, graph_of, IsSound}
use Rattle.store_tables.specs.Links.{rel_id}
use Rattle.graph_store.specs.Missing.{is_dead, IsMadeBy, new_node_values, new_rel_values, over_limits_with}
use Rattle.graph_store.specs.Created.{created_node, created_rel}
use Rattle.graph_store.specs.Edits.{is_unlisted, ends_live, WeighsSame}
use Rattle.store_tables.proofs.SlotLemmas.{id-at, IsNumbered-map, IsNumbered-kept, IsNumbered-++, living-map, living-kept, living-++, find-living, living-map_Some, list_any-find, sum_by-living, sum_by-ones}
use Rattle.graph_store.proofs.ValidLaws.{after_valid, after_within}

-- ---- which ids are missing

find_agree : {A : Type 0} (p q : A → Bool) (xs : List A) → ((x : A) → p x ≡ q x) → find p xs ≡ find q xs
find_agree p q [] agree = refl
find_agree p q (x ∷ xs) agree = rw agree (ap (cond (q x) (Some x)) (find_agree p q xs agree))

-- no node lives where its slot is dead
dead_node : (nodes : List (Option Node)) → IsNumbered node_id 0 nodes → (id : ℕ) → is_dead nodes id ≡ node_missing (living nodes) id
dead_node nodes numbered id =
    ap (λ o. not (is_some o)) (sym (find-living node_id nodes 0 id id numbered (omega arith))) ∙ ap not (sym (list_any-find (is_node id) (living nodes)))

dead_rel : (rels : List (Option Rel)) → IsNumbered rel_id 0 rels → (id : ℕ) → is_dead rels id ≡ rel_missing (living rels) id
dead_rel rels numbered id =
    ap (λ o. not (is_some o)) (sym (find-living rel_id rels 0 id id numbered (omega arith))) ∙ ap not (sym (list_any-find (is_rel id) (living rels)))

-- the first missing id of a list
pub missing_nodes : (nodes : List (Option Node)) (ids : List ℕ) → IsNumbered node_id 0 nodes → find (is_dead nodes) ids ≡ find (node_missing (living nodes)) ids
missing_nodes nodes ids numbered = find_agree (is_dead nodes) (node_missing (living nodes)) ids (dead_node nodes numbered)

pub missing_rels : (rels : List (Option Rel)) (ids : List ℕ) → IsNumbered rel_id 0 rels → find (is_dead rels) ids ≡ find (rel_missing (living rels)) ids
missing_rels rels ids numbered = find_agree (is_dead rels) (rel_missing (living rels)) ids (dead_rel rels numbered)

-- ---- why a change is refused

-- what holds, whatever the refusal is
pub unless_mem : (why : Refusal) (P : Type 0) → P → UnlessMem why P
unless_mem Mem P holds = tt
unless_mem _ P holds = holds

-- a missing node
pub refused_node : (g : PropertyGraph) (c : Change) (id : ℕ) → find (node_missing g.nodes) (named_nodes c) ≡ Some id → refused_change g c ≡ Some (NoSuchEntity kind.Node id)
refused_node g c id found = rw found refl

-- a missing relationship, where a change names no nodes
pub refused_rel : (g : PropertyGraph) (c : Change) (id : ℕ) → find (node_missing g.nodes) (named_nodes c) ≡ None → find (rel_missing g.rels) (named_rels c) ≡ Some id → refused_change g c ≡ Some (NoSuchEntity kind.Rel id)
refused_rel g c id none found = rw (none, found) refl

-- what is within its limit isn't over it
within_limit : (which : Quantity) (limit count : ℕ) → count ≤ limit → over_limit which limit count ≡ None
within_limit which limit count within = rw (le-ltb limit count within) refl

-- nothing is missing, and there are few enough elements: the values decide
pub refused_values : (g : PropertyGraph) (c : Change) → find (node_missing g.nodes) (named_nodes c) ≡ None → find (rel_missing g.rels) (named_rels c) ≡ None → (after_change g c).next_node ≤ most_nodes → (after_change g c).next_rel ≤ most_rels → refused_change g c ≡ over_limit quantity.Values most_values (value_count (after_change g c))
refused_values g c nodes rels few_nodes few_rels =
    rw (nodes, rels, within_limit quantity.Nodes most_nodes (after_change g c).next_node few_nodes, within_limit quantity.Rels most_rels (after_change g c).next_rel few_rels) refl

-- ---- the slots after a change are sound

pub sound_after : (nodes : List (Option Node)) (rels : List (Option Rel)) (values : ℕ) (c : Change) (nodes_after : List (Option Node)) (rels_after : List (Option Rel)) (values_after : ℕ) → IsSound nodes rels values → IsWellFormedChange c → refused_change (graph_of nodes rels) c ≡ None → graph_of nodes_after rels_after ≡ after_change (graph_of nodes rels) c → IsNumbered node_id 0 nodes_after → IsNumbered rel_id 0 rels_after → values_after ≡ value_count (graph_of nodes_after rels_after) → IsSound nodes_after rels_after values_after
sound_after nodes rels values c nodes_after rels_after values_after sound formed allowed same node_slots rel_slots counted = record {
  node_slots = node_slots;
  rel_slots = rel_slots;
  counted = counted;
  valid = rw same (after_valid (graph_of nodes rels) c sound.valid formed allowed);
  within = rw same (after_within (graph_of nodes rels) c allowed);
}

-- ---- values are set

pub graph_of-set_nodes : (nodes : List (Option Node)) (rels : List (Option Rel)) (key : List ℕ) (pairs : List (ℕ × ℤ)) → graph_of (map (option_map (node_after key pairs)) nodes) rels ≡ after_change (graph_of nodes rels) (SetNodes key pairs)
graph_of-set_nodes nodes rels key pairs =
    let lives = living-map (node_after key pairs) nodes in let long = length-map nodes (option_map (node_after key pairs)) in cc

pub graph_of-set_rels : (nodes : List (Option Node)) (rels : List (Option Rel)) (key : List ℕ) (pairs : List (ℕ × ℤ)) → graph_of nodes (map (option_map (rel_after key pairs)) rels) ≡ after_change (graph_of nodes rels) (SetRels key pairs)
graph_of-set_rels nodes rels key pairs =
    let lives = living-map (rel_after key pairs) rels in let long = length-map rels (option_map (rel_after key pairs)) in cc

-- the number of values, slot by slot
pub value_count-slots : (nodes : List (Option Node)) (rels : List (Option Rel)) → value_count (graph_of nodes rels) ≡ sum_by (slot_count node_value_count) nodes + sum_by (slot_count rel_value_count) rels
value_count-slots nodes rels =
    let node_values = sum_by-living node_value_count nodes in let rel_values = sum_by-living rel_value_count rels in omega (arith, node_values, rel_values)

-- more values in the slots of nodes
more_node_values : (nodes after : List (Option Node)) (rels : List (Option Rel)) (added : ℕ) → sum_by (slot_count node_value_count) after ≡ sum_by (slot_count node_value_count) nodes + added → value_count (graph_of after rels) ≡ value_count (graph_of nodes rels) + added
more_node_values nodes after rels added grown = omega (arith, value_count-slots nodes rels, value_count-slots after rels, grown)

more_rel_values : (nodes : List (Option Node)) (rels after : List (Option Rel)) (added : ℕ) → sum_by (slot_count rel_value_count) after ≡ sum_by (slot_count rel_value_count) rels + added → value_count (graph_of nodes after) ≡ value_count (graph_of nodes rels) + added
more_rel_values nodes rels after added grown = omega (arith, value_count-slots nodes rels, value_count-slots nodes after, grown)

-- what follows from a fact holds where the fact does, unless memory was wanted
pub unless_mem-weaker : (why : Refusal) (P Q : Type 0) → (P → Q) → UnlessMem why P → UnlessMem why Q
unless_mem-weaker Mem P Q weaker holds = tt
unless_mem-weaker _ P Q weaker holds = weaker holds

-- a change is refused for the first node that it names and that doesn't live
pub refused_for_node : (nodes : List (Option Node)) (rels : List (Option Rel)) (g : PropertyGraph) (c : Change) (why : Refusal) → IsNumbered node_id 0 nodes → graph_of nodes rels ≡ g → UnlessMem why (option_map (NoSuchEntity kind.Node) (find (is_dead nodes) (named_nodes c)) ≡ Some why) → UnlessMem why (refused_change g c ≡ Some why)
refused_for_node nodes rels g c why numbered is refused =
    unless_mem-weaker why _ _ (λ found. rw (← is) (let named = rw (missing_nodes nodes (named_nodes c) numbered) at found in rw named refl)) refused

-- or for the first relationship, where it names no nodes
pub refused_for_rel : (nodes : List (Option Node)) (rels : List (Option Rel)) (g : PropertyGraph) (c : Change) (why : Refusal) → IsNumbered rel_id 0 rels → graph_of nodes rels ≡ g → named_nodes c ≡ [] → UnlessMem why (option_map (NoSuchEntity kind.Rel) (find (is_dead rels) (named_rels c)) ≡ Some why) → UnlessMem why (refused_change g c ≡ Some why)
refused_for_rel nodes rels g c why numbered is unnamed refused =
    unless_mem-weaker why _ _ (λ found. rw (← is) (let named = rw (missing_rels rels (named_rels c) numbered) at found in rw (unnamed, named) refl)) refused

-- ---- values of nodes are set

-- the slots with values of nodes set, and what they stand for
pub record IsNodesSet (nodes : List (Option Node)) (rels : List (Option Rel)) (values : ℕ) (g : PropertyGraph) (key : List ℕ) (pairs : List (ℕ × ℤ)) (after : List (Option Node)) (added : ℕ) : Type 0 where
  pub sound : IsSound nodes rels values
  pub is : graph_of nodes rels ≡ g
  pub found : find (is_dead nodes) (map pair_id pairs) ≡ None
  pub set : after ≡ map (option_map (node_after key pairs)) nodes
  pub grown : sum_by (slot_count node_value_count) after ≡ sum_by (slot_count node_value_count) nodes + added

-- only the number of values can be too great
pub nodes_set_refused : (nodes : List (Option Node)) (rels : List (Option Rel)) (values : ℕ) (g : PropertyGraph) (key : List ℕ) (pairs : List (ℕ × ℤ)) (after : List (Option Node)) (added : ℕ) → IsNodesSet nodes rels values g key pairs after added → refused_change g (SetNodes key pairs) ≡ over_limit quantity.Values most_values (value_count g + added)
nodes_set_refused nodes rels values g key pairs after added made =
    let before = graph_of nodes rels in
    let same : graph_of after rels ≡ after_change before (SetNodes key pairs) = rw made.set (graph_of-set_nodes nodes rels key pairs) in
    let count : value_count (after_change before (SetNodes key pairs)) ≡ value_count before + added = ap value_count (sym same) ∙ more_node_values nodes after rels added made.grown in
    rw (← made.is)
    (refused_values before (SetNodes key pairs) (sym (missing_nodes nodes (map pair_id pairs) made.sound.node_slots) ∙ made.found) refl made.sound.within.nodes made.sound.within.rels
    ∙ ap (over_limit quantity.Values most_values) count)

-- the slots are those of the graph to come, and sound
pub nodes_set_made : (nodes : List (Option Node)) (rels : List (Option Rel)) (values : ℕ) (g : PropertyGraph) (key : List ℕ) (pairs : List (ℕ × ℤ)) (after : List (Option Node)) (added count : ℕ) (copied : List (Option Rel)) → IsNodesSet nodes rels values g key pairs after added → (count ≡ value_count g + added) × (over_limit quantity.Values most_values (value_count g + added) ≡ None) → copied ≡ rels → IsSound after copied count × IsMadeBy g (SetNodes key pairs) (graph_of after copied)
nodes_set_made nodes rels values g key pairs after added count copied made counted same =
    let before = graph_of nodes rels in
    let allowed : refused_change g (SetNodes key pairs) ≡ None = nodes_set_refused nodes rels values g key pairs after added made ∙ counted.1 in
    let graph : graph_of after rels ≡ after_change before (SetNodes key pairs) = rw made.set (graph_of-set_nodes nodes rels key pairs) in
    rw same (
      sound_after nodes rels values (SetNodes key pairs) after rels count made.sound tt (subst (λ (x : PropertyGraph). refused_change x (SetNodes key pairs) ≡ None) (sym made.is) allowed) graph
          (rw made.set (IsNumbered-map node_id (node_after key pairs) nodes 0 (λ node. refl) made.sound.node_slots)) made.sound.rel_slots
          (counted.0 ∙ rw (← made.is) (sym (more_node_values nodes after rels added made.grown))),
      (rw (← made.is) graph, allowed),
    )

-- ---- values of relationships are set

-- the slots with values of relationships set, and what they stand for
pub record IsRelsSet (nodes : List (Option Node)) (rels : List (Option Rel)) (values : ℕ) (g : PropertyGraph) (key : List ℕ) (pairs : List (ℕ × ℤ)) (after : List (Option Rel)) (added : ℕ) : Type 0 where
  pub sound : IsSound nodes rels values
  pub is : graph_of nodes rels ≡ g
  pub found : find (is_dead rels) (map pair_id pairs) ≡ None
  pub set : after ≡ map (option_map (rel_after key pairs)) rels
  pub grown : sum_by (slot_count rel_value_count) after ≡ sum_by (slot_count rel_value_count) rels + added

-- only the number of values can be too great
pub rels_set_refused : (nodes : List (Option Node)) (rels : List (Option Rel)) (values : ℕ) (g : PropertyGraph) (key : List ℕ) (pairs : List (ℕ × ℤ)) (after : List (Option Rel)) (added : ℕ) → IsRelsSet nodes rels values g key pairs after added → refused_change g (SetRels key pairs) ≡ over_limit quantity.Values most_values (value_count g + added)
rels_set_refused nodes rels values g key pairs after added made =
    let before = graph_of nodes rels in
    let same : graph_of nodes after ≡ after_change before (SetRels key pairs) = rw made.set (graph_of-set_rels nodes rels key pairs) in
    let count : value_count (after_change before (SetRels key pairs)) ≡ value_count before + added = ap value_count (sym same) ∙ more_rel_values nodes rels after added made.grown in
    rw (← made.is)
    (refused_values before (SetRels key pairs) refl (sym (missing_rels rels (map pair_id pairs) made.sound.rel_slots) ∙ made.found) made.sound.within.nodes made.sound.within.rels
    ∙ ap (over_limit quantity.Values most_values) count)

-- the slots are those of the graph to come, and sound
pub rels_set_made : (nodes : List (Option Node)) (rels : List (Option Rel)) (values : ℕ) (g : PropertyGraph) (key : List ℕ) (pairs : List (ℕ × ℤ)) (after : List (Option Rel)) (added count : ℕ) (copied : List (Option Node)) → IsRelsSet nodes rels values g key pairs after added → (count ≡ value_count g + added) × (over_limit quantity.Values most_values (value_count g + added) ≡ None) → copied ≡ nodes → IsSound copied after count × IsMadeBy g (SetRels key pairs) (graph_of copied after)
rels_set_made nodes rels values g key pairs after added count copied made counted same =
    let before = graph_of nodes rels in
    let allowed : refused_change g (SetRels key pairs) ≡ None = rels_set_refused nodes rels values g key pairs after added made ∙ counted.1 in
    let graph : graph_of nodes after ≡ after_change before (SetRels key pairs) = rw made.set (graph_of-set_rels nodes rels key pairs) in
    rw same (
      sound_after nodes rels values (SetRels key pairs) nodes after count made.sound tt (subst (λ (x : PropertyGraph). refused_change x (SetRels key pairs) ≡ None) (sym made.is) allowed) graph
          made.sound.node_slots (rw made.set (IsNumbered-map rel_id (rel_after key pairs) rels 0 (λ rel. refl) made.sound.rel_slots))
          (counted.0 ∙ rw (← made.is) (sym (more_rel_values nodes rels after added made.grown))),
      (rw (← made.is) graph, allowed),
    )

-- ---- elements go

-- the values in the slots are those that are counted, and few
pub values_fit : (nodes : List (Option Node)) (rels : List (Option Rel)) (values : ℕ) → IsSound nodes rels values → (sum_by (slot_count node_value_count) nodes + sum_by (slot_count rel_value_count) rels ≡ values) × (values ≤ most_values)
values_fit nodes rels values sound =
    let slots = value_count-slots nodes rels in let counted = sound.counted in let within = sound.within.values in
    (omega (arith, slots, counted), omega (arith, counted, within))

-- nothing is refused where nothing is missing and the values are few
allowed_values : (g : PropertyGraph) (c : Change) → find (node_missing g.nodes) (named_nodes c) ≡ None → find (rel_missing g.rels) (named_rels c) ≡ None → (after_change g c).next_node ≤ most_nodes → (after_change g c).next_rel ≤ most_rels → value_count (after_change g c) ≤ most_values → refused_change g c ≡ None
allowed_values g c nodes rels few_nodes few_rels few_values =
    refused_values g c nodes rels few_nodes few_rels ∙ within_limit quantity.Values most_values (value_count (after_change g c)) few_values

-- no more live than there are slots
length-living : {A : Type 0} (slots : List (Option A)) → length (living slots) ≤ length slots
length-living [] = omega arith
length-living (None ∷ slots) = omega (arith, length-living slots)
length-living (Some x ∷ slots) = omega (arith, length-living slots)

-- so many are gone as live no more
gone_length : {A : Type 0} (slots left : List (Option A)) (gone : List A) → WeighsSame slots left gone → length (living left) + length gone ≡ length (living slots)
gone_length slots left gone same =
    omega (arith, same (λ _. 1), sum_by-ones gone, sum_by-living (λ _. 1) left, sum_by-living (λ _. 1) slots, sum_by-ones (living left), sum_by-ones (living slots))

pub gone_few : {A : Type 0} (slots left : List (Option A)) (gone : List A) → WeighsSame slots left gone → length gone ≤ length slots
gone_few slots left gone same = omega (arith, gone_length slots left gone same, length-living slots)

-- what is answered where nodes went, and the relationships at them
pub nodes_gone_answer : (nodes nodes_left : List (Option Node)) (rels rels_left : List (Option Rel)) (g : PropertyGraph) (ids : List ℕ) (gone_nodes : List Node) (gone_rels : List Rel) → graph_of nodes rels ≡ g → graph_of nodes_left rels_left ≡ after_change g (DeleteNodes ids) → WeighsSame nodes nodes_left gone_nodes → WeighsSame rels rels_left gone_rels → Deleted (length gone_nodes) (length gone_rels) ≡ change_answer g (DeleteNodes ids)
nodes_gone_answer nodes nodes_left rels rels_left g ids gone_nodes gone_rels is made nodes_same rels_same =
    let node_count = gone_length nodes nodes_left gone_nodes nodes_same in
    let rel_count = gone_length rels rels_left gone_rels rels_same in
    let nodes_before = ap (λ (x : PropertyGraph). length x.nodes) is in let rels_before = ap (λ (x : PropertyGraph). length x.rels) is in
    let nodes_after = ap (λ (x : PropertyGraph). length x.nodes) made in let rels_after = ap (λ (x : PropertyGraph). length x.rels) made in
    let gone_node_count : length gone_nodes ≡ length g.nodes - length (filter (keeps_node ids) g.nodes) = omega (arith, node_count, nodes_before, nodes_after) in
    let gone_rel_count : length gone_rels ≡ length g.rels - length (filter (keeps_ends ids) g.rels) = omega (arith, rel_count, rels_before, rels_after) in cc

-- what is answered where relationships went
pub rels_gone_answer : (nodes nodes_after : List (Option Node)) (rels rels_left : List (Option Rel)) (g : PropertyGraph) (ids : List ℕ) (gone : List Rel) → graph_of nodes rels ≡ g → graph_of nodes_after rels_left ≡ after_change g (DeleteRels ids) → WeighsSame rels rels_left gone → Deleted 0 (length gone) ≡ change_answer g (DeleteRels ids)
rels_gone_answer nodes nodes_after rels rels_left g ids gone is made same =
    let count = gone_length rels rels_left gone same in
    let before = ap (λ (x : PropertyGraph). length x.rels) is in
    let after = ap (λ (x : PropertyGraph). length x.rels) made in
    let gone_count : length gone ≡ length g.rels - length (filter (keeps_rel ids) g.rels) = omega (arith, count, before, after) in cc

-- the slots without listed relationships
pub record IsRelsGone (nodes : List (Option Node)) (rels : List (Option Rel)) (values : ℕ) (g : PropertyGraph) (ids : List ℕ) (after : List (Option Rel)) (removed : ℕ) : Type 0 where
  pub sound : IsSound nodes rels values
  pub is : graph_of nodes rels ≡ g
  pub found : find (is_dead rels) ids ≡ None
  pub gone : after ≡ map (kept (is_unlisted rel_id ids)) rels
  pub counted : sum_by (slot_count rel_value_count) after + removed ≡ sum_by (slot_count rel_value_count) rels

graph_of-rels_gone : (nodes : List (Option Node)) (rels : List (Option Rel)) (ids : List ℕ) → graph_of nodes (map (kept (is_unlisted rel_id ids)) rels) ≡ after_change (graph_of nodes rels) (DeleteRels ids)
graph_of-rels_gone nodes rels ids =
    let lives = living-kept (is_unlisted rel_id ids) rels in let long = length-map rels (kept (is_unlisted rel_id ids)) in cc

pub rels_gone_made : (nodes : List (Option Node)) (rels : List (Option Rel)) (values : ℕ) (g : PropertyGraph) (ids : List ℕ) (after : List (Option Rel)) (removed : ℕ) (copied : List (Option Node)) → IsRelsGone nodes rels values g ids after removed → copied ≡ nodes → IsSound copied after (values - removed) × IsMadeBy g (DeleteRels ids) (graph_of copied after)
rels_gone_made nodes rels values g ids after removed copied made same =
    let before = graph_of nodes rels in
    let graph : graph_of nodes after ≡ after_change before (DeleteRels ids) = rw made.gone (graph_of-rels_gone nodes rels ids) in
    let fit = values_fit nodes rels values made.sound in
    let slots = value_count-slots nodes after in
    let counted : values - removed ≡ value_count (graph_of nodes after) = omega (arith, fit.0, slots, made.counted) in
    let few : value_count (graph_of nodes after) ≤ most_values = omega (arith, fit.0, fit.1, slots, made.counted) in
    let allowed : refused_change before (DeleteRels ids) ≡ None =
    allowed_values before (DeleteRels ids) refl (sym (missing_rels rels ids made.sound.rel_slots) ∙ made.found) made.sound.within.nodes made.sound.within.rels
    (subst (λ (x : PropertyGraph). value_count x ≤ most_values) graph few) in
    rw same (
      sound_after nodes rels values (DeleteRels ids) nodes after (values - removed) made.sound tt allowed graph
          made.sound.node_slots (rw made.gone (IsNumbered-kept rel_id (is_unlisted rel_id ids) rels 0 made.sound.rel_slots)) counted,
      (rw (← made.is) graph, subst (λ (x : PropertyGraph). refused_change x (DeleteRels ids) ≡ None) made.is allowed),
    )

-- ---- nodes go, and the relationships at them

-- two tests that agree where a fact holds keep the same items of which it holds
filter_agree_on : {A : Type 0} (P : A → Type 0) (p q : A → Bool) (xs : List A) → ((x : A) → P x → p x ≡ q x) → AllByRecursion P xs → filter p xs ≡ filter q xs
filter_agree_on P p q [] agree all = refl
filter_agree_on P p q (x ∷ xs) agree all =
    let same = agree x all.0 in let rest = filter_agree_on P p q xs agree all.1 in
    rw (same, rest) refl

-- an edit of each slot, at one id
slot_at-map : {A : Type 0} (f : Option A → Option A) (slots : List (Option A)) (id : ℕ) → f None ≡ None → slot_at (map f slots) id ≡ f (slot_at slots id)
slot_at-map f [] id none = sym none
slot_at-map f (slot ∷ slots) zero none = refl
slot_at-map f (slot ∷ slots) (suc id) none = slot_at-map f slots id none

-- what lived lives on exactly if it isn't listed
kept_lives : (ids : List ℕ) (id : ℕ) (slot : Option Node) → ((node : Node) → slot ≡ Some node → node.id ≡ id) → is_some slot ≡ true → is_some (kept (is_unlisted node_id ids) slot) ≡ not (is_listed ids id)
kept_lives ids id None is lives = cc
kept_lives ids id (Some node) is lives =
    let own : is_listed ids node.id ≡ is_listed ids id = ap (is_listed ids) (is node refl) in
    elim (cases_Bool (is_listed ids id)) [
      | inl listed ↦ let here : is_listed ids node.id ≡ true = own ∙ listed in rw (here, listed) refl
      | inr unlisted ↦ let here : is_listed ids node.id ≡ false = own ∙ unlisted in rw (here, unlisted) refl
    ]

-- an end that lived lives on exactly if it isn't listed
end_kept : (nodes : List (Option Node)) (ids : List ℕ) (id : ℕ) → IsNumbered node_id 0 nodes → IsTrue (node_lives (living nodes) id) → is_some (slot_at (map (kept (is_unlisted node_id ids)) nodes) id) ≡ not (is_listed ids id)
end_kept nodes ids id numbered lives =
    let there : is_some (slot_at nodes id) ≡ true = ap is_some (sym (find-living node_id nodes 0 id id numbered (omega arith))) ∙ sym (list_any-find (is_node id) (living nodes)) ∙ lives in
    ap is_some (slot_at-map (kept (is_unlisted node_id ids)) nodes id refl)
    ∙ kept_lives ids id (slot_at nodes id) (λ node is. omega (arith, id-at node_id nodes 0 id node numbered is)) there

graph_of-nodes_gone : (nodes : List (Option Node)) (rels : List (Option Rel)) (ids : List ℕ) (left : List (Option Node)) → IsNumbered node_id 0 nodes → AllByRecursion (EndsLive (living nodes)) (living rels) → left ≡ map (kept (is_unlisted node_id ids)) nodes → graph_of left (map (kept (ends_live left)) rels) ≡ after_change (graph_of nodes rels) (DeleteNodes ids)
graph_of-nodes_gone nodes rels ids left numbered ends is =
    let nodes_left : living left ≡ filter (keeps_node ids) (living nodes) = ap living is ∙ living-kept (is_unlisted node_id ids) nodes in
    let nodes_long : length left ≡ length nodes = ap length is ∙ length-map nodes (kept (is_unlisted node_id ids)) in
    let rels_left : living (map (kept (ends_live left)) rels) ≡ filter (keeps_ends ids) (living rels) =
    living-kept (ends_live left) rels ∙ filter_agree_on (EndsLive (living nodes)) (ends_live left) (keeps_ends ids) (living rels)
    (λ rel live. let source = end_kept nodes ids rel.source numbered live.0 in let target = end_kept nodes ids rel.target numbered live.1 in rw (is, source, target) refl) ends in
    let rels_long : length (map (kept (ends_live left)) rels) ≡ length rels = length-map rels (kept (ends_live left)) in cc

-- the slots without listed nodes, and without the relationships at them
pub record IsNodesGone (nodes : List (Option Node)) (rels : List (Option Rel)) (values : ℕ) (g : PropertyGraph) (ids : List ℕ) (nodes_left : List (Option Node)) (rels_left : List (Option Rel)) (node_values rel_values : ℕ) : Type 0 where
  pub sound : IsSound nodes rels values
  pub is : graph_of nodes rels ≡ g
  pub found : find (is_dead nodes) ids ≡ None
  pub nodes_gone : nodes_left ≡ map (kept (is_unlisted node_id ids)) nodes
  pub rels_gone : rels_left ≡ map (kept (ends_live nodes_left)) rels
  pub node_count : sum_by (slot_count node_value_count) nodes_left + node_values ≡ sum_by (slot_count node_value_count) nodes
  pub rel_count : sum_by (slot_count rel_value_count) rels_left + rel_values ≡ sum_by (slot_count rel_value_count) rels

pub nodes_gone_made : (nodes : List (Option Node)) (rels : List (Option Rel)) (values : ℕ) (g : PropertyGraph) (ids : List ℕ) (nodes_left : List (Option Node)) (rels_left : List (Option Rel)) (node_values rel_values : ℕ) → IsNodesGone nodes rels values g ids nodes_left rels_left node_values rel_values → IsSound nodes_left rels_left (values - node_values - rel_values) × IsMadeBy g (DeleteNodes ids) (graph_of nodes_left rels_left)
nodes_gone_made nodes rels values g ids nodes_left rels_left node_values rel_values made =
    let before = graph_of nodes rels in
    let graph : graph_of nodes_left rels_left ≡ after_change before (DeleteNodes ids) =
    ap (graph_of nodes_left) made.rels_gone ∙ graph_of-nodes_gone nodes rels ids nodes_left made.sound.node_slots made.sound.valid.ends made.nodes_gone in
    let fit = values_fit nodes rels values made.sound in
    let slots = value_count-slots nodes_left rels_left in
    let counted : values - node_values - rel_values ≡ value_count (graph_of nodes_left rels_left) = omega (arith, fit.0, slots, made.node_count, made.rel_count) in
    let few : value_count (graph_of nodes_left rels_left) ≤ most_values = omega (arith, fit.0, fit.1, slots, made.node_count, made.rel_count) in
    let allowed : refused_change before (DeleteNodes ids) ≡ None =
    allowed_values before (DeleteNodes ids) (sym (missing_nodes nodes ids made.sound.node_slots) ∙ made.found) refl made.sound.within.nodes made.sound.within.rels
    (subst (λ (x : PropertyGraph). value_count x ≤ most_values) graph few) in (
      sound_after nodes rels values (DeleteNodes ids) nodes_left rels_left (values - node_values - rel_values) made.sound tt allowed graph
          (rw made.nodes_gone (IsNumbered-kept node_id (is_unlisted node_id ids) nodes 0 made.sound.node_slots))
          (rw made.rels_gone (IsNumbered-kept rel_id (ends_live nodes_left) rels 0 made.sound.rel_slots)) counted,
      (rw (← made.is) graph, subst (λ (x : PropertyGraph). refused_change x (DeleteNodes ids) ≡ None) made.is allowed),
    )

-- ---- elements are made

-- as many items are in order
length-insert_in_order : {A : Type 0} (before : A → A → Bool) (x : A) (xs : List A) → length (insert_in_order before x xs) ≡ length xs + 1
length-insert_in_order before x [] = refl
length-insert_in_order before x (y ∷ ys) =
    elim (before y x) as (λ b. length (cond b (y ∷ insert_in_order before x ys) (x ∷ y ∷ ys)) ≡ suc (length ys) + 1)
    [ true ↦ omega (arith, length-insert_in_order before x ys) | false ↦ omega arith ]

length-in_order : {A : Type 0} (before : A → A → Bool) (xs : List A) → length (in_order before xs) ≡ length xs
length-in_order before [] = refl
length-in_order before (x ∷ xs) = omega (arith, length-insert_in_order before x (in_order before xs), length-in_order before xs)

-- new elements: how many they are, how many values they have, and that they stand under their ids
length-created_nodes : (news : List NewNode) (first : ℕ) → length (created_nodes first news) ≡ length news
length-created_nodes [] first = refl
length-created_nodes (new ∷ news) first = omega (arith, length-created_nodes news (first + 1))

length-created_rels : (news : List NewRel) (nodes first : ℕ) → length (created_rels nodes first news) ≡ length news
length-created_rels [] nodes first = refl
length-created_rels (new ∷ news) nodes first = omega (arith, length-created_rels news nodes (first + 1))

values-created_nodes : (news : List NewNode) (first : ℕ) → sum_by node_value_count (created_nodes first news) ≡ sum_by new_node_values news
values-created_nodes [] first = refl
values-created_nodes (new ∷ news) first =
    sum_by-cons node_value_count (created_node first new) (created_nodes (first + 1) news)
    ∙ omega (arith, length-in_order key_before new.props, values-created_nodes news (first + 1), sum_by-cons new_node_values new news)

values-created_rels : (news : List NewRel) (nodes first : ℕ) → sum_by rel_value_count (created_rels nodes first news) ≡ sum_by new_rel_values news
values-created_rels [] nodes first = refl
values-created_rels (new ∷ news) nodes first =
    sum_by-cons rel_value_count (created_rel nodes first new) (created_rels nodes (first + 1) news)
    ∙ omega (arith, length-in_order key_before new.props, values-created_rels news nodes (first + 1), sum_by-cons new_rel_values new news)

IsNumbered-created_nodes : (news : List NewNode) (first : ℕ) → IsNumbered node_id first (map Some (created_nodes first news))
IsNumbered-created_nodes [] first = tt
IsNumbered-created_nodes (new ∷ news) first = (refl, IsNumbered-created_nodes news (first + 1))

IsNumbered-created_rels : (news : List NewRel) (nodes first : ℕ) → IsNumbered rel_id first (map Some (created_rels nodes first news))
IsNumbered-created_rels [] nodes first = tt
IsNumbered-created_rels (new ∷ news) nodes first = (refl, IsNumbered-created_rels news nodes (first + 1))

-- the slots with new elements behind the others
abbrev pub nodes_with : List (Option Node) → List NewNode → List (Option Node)
nodes_with nodes news = nodes ++ map Some (created_nodes (length nodes) news)

abbrev pub rels_with : ℕ → List (Option Rel) → List NewRel → List (Option Rel)
rels_with first rels news = rels ++ map Some (created_rels first (length rels) news)

living-with : {A : Type 0} (slots : List (Option A)) (news : List A) → living (slots ++ map Some news) ≡ living slots ++ news
living-with slots news = living-++ slots (map Some news) ∙ ap (λ rest. living slots ++ rest) (living-map_Some news)

length-with : {A : Type 0} (slots : List (Option A)) (news : List A) → length (slots ++ map Some news) ≡ length slots + length news
length-with {A} slots news = omega (arith, length-append slots (map Some news), length-map {A = A} {B = Option A} news Some)

graph_of-created : (nodes : List (Option Node)) (rels : List (Option Rel)) (new_nodes : List NewNode) (new_rels : List NewRel) → graph_of (nodes_with nodes new_nodes) (rels_with (length nodes) rels new_rels) ≡ after_change (graph_of nodes rels) (Create new_nodes new_rels)
graph_of-created nodes rels new_nodes new_rels =
    let made_nodes = created_nodes (length nodes) new_nodes in let made_rels = created_rels (length nodes) (length rels) new_rels in
    let living_nodes = living-with nodes made_nodes in let living_rels = living-with rels made_rels in
    let many_nodes : length (nodes ++ map Some made_nodes) ≡ length nodes + length new_nodes = omega (arith, length-with nodes made_nodes, length-created_nodes new_nodes (length nodes)) in
    let many_rels : length (rels ++ map Some made_rels) ≡ length rels + length new_rels = omega (arith, length-with rels made_rels, length-created_rels new_rels (length nodes) (length rels)) in cc

-- the number of values with new elements
values_with_created : (g : PropertyGraph) (new_nodes : List NewNode) (new_rels : List NewRel) → value_count (after_change g (Create new_nodes new_rels)) ≡ value_count g + (sum_by new_node_values new_nodes + sum_by new_rel_values new_rels)
values_with_created g new_nodes new_rels =
    omega (
      arith,
      sum_by-append node_value_count g.nodes (created_nodes g.next_node new_nodes),
      sum_by-append rel_value_count g.rels (created_rels g.next_node g.next_rel new_rels),
      values-created_nodes new_nodes g.next_node,
      values-created_rels new_rels g.next_node g.next_rel,
    )

-- new elements are refused for a limit where all that they name lives
pub created_refused : (nodes : List (Option Node)) (rels : List (Option Rel)) (g : PropertyGraph) (new_nodes : List NewNode) (new_rels : List NewRel) → IsNumbered node_id 0 nodes → graph_of nodes rels ≡ g → find (is_dead nodes) (flat_map named_ends new_rels) ≡ None → refused_change g (Create new_nodes new_rels) ≡ over_limits_with g new_nodes new_rels
created_refused nodes rels g new_nodes new_rels numbered is found =
    let named : find (node_missing g.nodes) (flat_map named_ends new_rels) ≡ None = rw (← is) (sym (missing_nodes nodes (flat_map named_ends new_rels) numbered) ∙ found) in
    rw named (ap (λ n. first_there (over_limit quantity.Nodes most_nodes (g.next_node + length new_nodes)) (first_there (over_limit quantity.Rels most_rels (g.next_rel + length new_rels)) (over_limit quantity.Values most_values n)))
    (values_with_created g new_nodes new_rels))

-- and else leave sound slots, which are those of the graph to come
pub created_made : (nodes : List (Option Node)) (rels : List (Option Rel)) (values : ℕ) (g : PropertyGraph) (new_nodes : List NewNode) (new_rels : List NewRel) (nodes_after : List (Option Node)) (rels_after : List (Option Rel)) (count : ℕ) → IsSound nodes rels values → graph_of nodes rels ≡ g → IsWellFormedChange (Create new_nodes new_rels) → find (is_dead nodes) (flat_map named_ends new_rels) ≡ None → nodes_after ≡ nodes_with nodes new_nodes → rels_after ≡ rels_with (length nodes) rels new_rels → (count ≡ value_count g + (sum_by new_node_values new_nodes + sum_by new_rel_values new_rels)) × (over_limits_with g new_nodes new_rels ≡ None) → IsSound nodes_after rels_after count × IsMadeBy g (Create new_nodes new_rels) (graph_of nodes_after rels_after)
created_made nodes rels values g new_nodes new_rels nodes_after rels_after count sound is formed found nodes_is rels_is counted =
    let before = graph_of nodes rels in
    let change = Create new_nodes new_rels in
    let allowed : refused_change g change ≡ None = created_refused nodes rels g new_nodes new_rels sound.node_slots is found ∙ counted.1 in
    let graph : graph_of nodes_after rels_after ≡ after_change before change = rw (nodes_is, rels_is) (graph_of-created nodes rels new_nodes new_rels) in
    let total : count ≡ value_count (graph_of nodes_after rels_after) =
    counted.0 ∙ sym (values_with_created g new_nodes new_rels) ∙ ap (λ (x : PropertyGraph). value_count (after_change x change)) (sym is) ∙ ap value_count (sym graph) in (
      sound_after nodes rels values change nodes_after rels_after count sound formed (subst (λ (x : PropertyGraph). refused_change x change ≡ None) (sym is) allowed) graph
          (rw nodes_is (IsNumbered-++ node_id nodes (map Some (created_nodes (length nodes) new_nodes)) 0 (length nodes) sound.node_slots (omega arith) (IsNumbered-created_nodes new_nodes (length nodes))))
          (rw rels_is (IsNumbered-++ rel_id rels (map Some (created_rels (length nodes) (length rels) new_rels)) 0 (length rels) sound.rel_slots (omega arith) (IsNumbered-created_rels new_rels (length nodes) (length rels)))) total,
      (rw (← is) graph, allowed),
    )
