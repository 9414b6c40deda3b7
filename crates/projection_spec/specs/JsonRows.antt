-- Arguments of projections, on which the definitions are evaluated.
use Rattle.std.specs.Prelude.{ℕ, ℤ, Bool, false, List, [], ◌∷◌, Option, Some, None, codes}
use Rattle.serde_json.specs.Data.{Data, string, array, object, Items, no_items, item, Members, no_members, member}
use Rattle.graph_model.specs.declared.graph.Orientation.{Orientation}
use Rattle.graph_model.specs.declared.graph.Orientation.TheVariants.{Natural}
use Rattle.graph_model.specs.declared.refusal.Refusal.{Refusal}
use Rattle.graph_model.specs.declared.refusal.Refusal.TheVariants.{BadArgument}
use Rattle.projection_spec.specs.declared.entries.NodeProp.{NodeProp}
use Rattle.projection_spec.specs.declared.entries.NodeEntry.{NodeEntry}
use Rattle.projection_spec.specs.declared.entries.RelProp.{RelProp}
use Rattle.projection_spec.specs.declared.entries.Rule.{Rule}
use Rattle.projection_spec.specs.Fields.{RelFields, SpecFields}
use Rattle.projection_spec.specs.Projected.{refused_spec, spec_of}

-- a list
abbrev pub items : List Data → Items
items [] = no_items
items (value ∷ values) = item value (items values)

abbrev pub list : List Data → Data
list values = array (items values)

-- a map, its fields in order
abbrev pub members : List (List ℕ × Data) → Members
members [] = no_members
members (m ∷ ms) = member m.0 m.1 (members ms)

abbrev pub fields : List (List ℕ × Data) → Data
fields ms = object (members ms)

-- a map with one field
abbrev pub field : List ℕ → Data → Data
field name value = fields ((name, value) ∷ [])

-- a key of the nodes
abbrev pub node_prop_row : List ℕ → List ℕ → Option ℤ → NodeProp
node_prop_row key store default = record { key = key; store = store; default = default }

-- an entry of the nodes
abbrev pub node_row : List ℕ → Option (List ℕ) → List NodeProp → NodeEntry
node_row label store props = record { label = label; store = store; props = props }

-- a key of the relationships
abbrev pub rel_prop_row : List ℕ → Option (List ℕ) → Option ℤ → Rule → RelProp
rel_prop_row key store default rule = record { key = key; store = store; default = default; rule = rule }

-- an entry of the relationships
abbrev pub rel_row : List ℕ → Option (List ℕ) → Orientation → Bool → List RelProp → RelFields
rel_row kind store orientation grouped props =
    record { kind = kind; store = store; orientation = orientation; grouped = grouped; props = props }

-- every relationship
abbrev pub every_rel : RelFields
every_rel = rel_row (codes "__ALL__") None Natural false []

-- the nodes of a projection with every relationship
abbrev pub nodes_spec : Data → Data → Option SpecFields
nodes_spec nodes config = spec_of nodes (string (codes "*")) config

-- why the nodes of a projection with every relationship are refused
abbrev pub nodes_refused : Data → Data → Option Refusal
nodes_refused nodes config = refused_spec nodes (string (codes "*")) config

-- the same of the relationships, with every node
abbrev pub rels_spec : Data → Data → Option SpecFields
rels_spec rels config = spec_of (string (codes "*")) rels config

abbrev pub rels_refused : Data → Data → Option Refusal
rels_refused rels config = refused_spec (string (codes "*")) rels config

-- a projection with these nodes and every relationship, or with every node and these relationships
abbrev pub of_nodes : List NodeEntry → Option SpecFields
of_nodes nodes = Some (record { nodes = nodes; rels = every_rel ∷ [] })

abbrev pub of_rels : List RelFields → Option SpecFields
of_rels rels = Some (record { nodes = node_row (codes "__ALL__") None [] ∷ []; rels = rels })

-- no configuration
abbrev pub plain : Data
plain = object no_members

-- a wrong argument
abbrev pub wrong : List ℕ → Option Refusal
wrong at = Some (BadArgument at 0)

-- a relationship entry R with these fields
abbrev pub type_r_said : List (List ℕ × Data) → Data
type_r_said said = field (codes "R") (fields said)

-- the key w under a name, with an aggregation
abbrev pub w_by : List ℕ → Data
w_by word = fields ((codes "aggregation", string word) ∷ (codes "property", string (codes "w")) ∷ [])
