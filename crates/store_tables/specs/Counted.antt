-- How often the elements in slots have a name: a class (a label of a node, the type of a relationship), or a key.
--   times name_of items name     how often a name stands among items that have one
--   key_weight weight props      how much the keys of values weigh
--   IsCounted                    under each name stands how often the elements have it
use Rattle.std.specs.Prelude.{◌≡◌, ℕ, List, [], ◌∷◌, count_by, sum_by, Option}
use Rattle.std.specs.Str.{bytes_eq}
use Rattle.graph_model.specs.declared.graph.Node.{Node}
use Rattle.graph_model.specs.declared.graph.Rel.{Rel}
use Rattle.graph_model.specs.declared.graph.Prop.{Prop}
use Rattle.store_tables.specs.declared.name_row.NameRow.{NameRow}
use Rattle.store_tables.specs.Slots.{slot_count}
use Rattle.store_tables.specs.NameRows.{count_under}

-- how often a name stands among items that have one
abbrev pub times : {A : Type 0} → (A → List ℕ) → List A → List ℕ → ℕ
times name_of items name = count_by (λ item. bytes_eq name (name_of item)) items

-- a name itself
abbrev pub own_name : List ℕ → List ℕ
own_name name = name

-- the key of a value
abbrev pub prop_key : Prop → List ℕ
prop_key prop = prop.key

-- the classes of a node: its labels
abbrev pub node_classes : Node → List (List ℕ)
node_classes node = node.labels

-- the classes of a relationship: its type
abbrev pub rel_classes : Rel → List (List ℕ)
rel_classes rel = rel.kind ∷ []

-- the values of a node, and of a relationship
abbrev pub node_props : Node → List Prop
node_props node = node.props

abbrev pub rel_props : Rel → List Prop
rel_props rel = rel.props

-- how much the keys of values weigh
abbrev pub key_weight : (List ℕ → ℕ) → List Prop → ℕ
key_weight weight props = sum_by (λ prop. weight prop.key) props

-- under each name stands how often the elements in the slots have it
pub record IsCounted {A : Type 0} (classes_of : A → List (List ℕ)) (props_of : A → List Prop) (slots : List (Option A)) (classes keys : List NameRow) : Type 0 where
  pub classes_counted : (name : List ℕ) → count_under classes name ≡ sum_by (slot_count (λ x. times own_name (classes_of x) name)) slots
  pub keys_counted : (name : List ℕ) → count_under keys name ≡ sum_by (slot_count (λ x. times prop_key (props_of x) name)) slots
