-- What JSON says of new nodes and new relationships.
--   read_props        an object from keys to values
--   each_once names   names in ascending order, each once
--   read_node         a new node
--   read_end          an end of a new relationship
--   read_rel          a new relationship
use Rattle.std.specs.Prelude.{ℕ, ℤ, if◌then◌else◌, List, [], ◌∷◌, Option, Some, None, option_map, option_and_then, codes}
use Rattle.std.specs.Ordering.{nat_cmp}
use Rattle.std.specs.BTreeSet.{insert_key}
use Rattle.std.specs.Cmp.Lexicographic.{slice_cmp}
use Rattle.serde_json.specs.Data.{Data, null, boolean, number, string, array, object, Members, no_members, member}
use Rattle.serde_json.specs.Find.{get, as_object}
use Rattle.graph_model.specs.declared.graph.Prop.{Prop}
use Rattle.graph_model.specs.declared.change.NewNode.{NewNode}
use Rattle.graph_model.specs.declared.change.NewRel.{NewRel}
use Rattle.graph_model.specs.declared.change.Place.{Place}
use Rattle.graph_model.specs.declared.change.Place.TheVariants.{Old, New}
use Rattle.graph_model.specs.Lists.{Pairwise}
use Rattle.graph_model.specs.Change.{KeysDiffer}
use Rattle.json_forms.specs.Fields.{field_or, has_only}
use Rattle.json_forms.specs.Forms.{name_of, read_name, read_id, read_whole, read_list, before_others}

-- a key and its value, where both are right
abbrev pub prop_from : Option (List ℕ) → Option ℤ → Option Prop
prop_from (Some key) (Some value) = Some (record { key = key; value = value })
prop_from (Some key) None = None
prop_from None value = None

-- what fields say of values
abbrev pub props_of : Members → Option (List Prop)
props_of no_members = Some []
props_of (member key value fields) = before_others (prop_from (name_of key) (read_whole value)) (props_of fields)

abbrev pub read_props : Data → Option (List Prop)
read_props value = option_and_then props_of (as_object value)

-- names put one after another among names that ascend, each once
abbrev pub put_names : List (List ℕ) → List (List ℕ) → List (List ℕ)
put_names ordered [] = ordered
put_names ordered (name ∷ names) = put_names (insert_key (slice_cmp nat_cmp) ordered name) names

-- names in ascending order, each once
abbrev pub each_once : List (List ℕ) → List (List ℕ)
each_once names = put_names [] names

-- a list of names, in ascending order, each once
abbrev pub read_labels : Data → Option (List (List ℕ))
read_labels value = option_map each_once (read_list read_name value)

-- a new node, where its labels and its values are right
abbrev pub node_from : Option (List (List ℕ)) → Option (List Prop) → Option NewNode
node_from (Some labels) (Some props) = Some (record { labels = labels; props = props })
node_from (Some labels) None = None
node_from None props = None

abbrev pub read_node : Data → Option NewNode
read_node value =
    if has_only (codes "labels" ∷ codes "properties" ∷ []) value
    then node_from (field_or read_labels [] (get (codes "labels") value)) (field_or read_props [] (get (codes "properties") value))
    else None

-- an end of a new relationship: an id, or the place of a new node
abbrev pub new_end : Data → Option Place
new_end value = if has_only (codes "new" ∷ []) value then option_map New (option_and_then read_id (get (codes "new") value)) else None

abbrev pub read_end : Data → Option Place
read_end null = None
read_end (boolean b) = None
read_end (number n) = option_map Old (read_id (number n))
read_end (string text) = None
read_end (array items) = None
read_end (object fields) = new_end (object fields)

-- a new relationship, where its ends, its type and its values are right
abbrev pub rel_from : Option Place → Option Place → Option (List ℕ) → Option (List Prop) → Option NewRel
rel_from (Some source) (Some target) (Some kind) (Some props) =
    Some (record { source = source; target = target; kind = kind; props = props })
rel_from _ _ _ _ = None

abbrev pub read_rel : Data → Option NewRel
read_rel value =
    if has_only (codes "source" ∷ codes "target" ∷ codes "type" ∷ codes "properties" ∷ []) value
    then rel_from (option_and_then read_end (get (codes "source") value)) (option_and_then read_end (get (codes "target") value))
    (option_and_then read_name (get (codes "type") value)) (field_or read_props [] (get (codes "properties") value))
    else None

-- the keys of a relationship are distinct
abbrev pub HasDistinctKeys : NewRel → Type 0
HasDistinctKeys rel = Pairwise KeysDiffer rel.props
