-- What JSON says of one property and of one entry.
--   node_prop, node_props       a key of projected nodes, and all of an entry
--   written_prop, written_props       a key of projected arcs, and all of an entry
--   node_entry, node_entries    a projected label, and the side of the nodes
--   written_entry, written_entries    a projected type, and the side of the relationships
use Rattle.std.specs.Prelude.{◌≡◌, ℕ, ℤ, Bool, true, false, ◌||◌, if◌then◌else◌, List, [], ◌∷◌, Option, Some, None, option_and_then, is_some, unwrap_or, codes}
use Rattle.std.specs.Option.{option_or}
use Rattle.std.specs.List.{list_all}
use Rattle.serde_json.specs.Data.{Data}
use Rattle.serde_json.specs.Find.{get}
use Rattle.graph_model.specs.declared.graph.Orientation.{Orientation}
use Rattle.graph_model.specs.declared.graph.Orientation.TheVariants.{Natural}
use Rattle.projection_spec.specs.declared.entries.Rule.{Rule}
use Rattle.projection_spec.specs.declared.entries.Rule.TheVariants.{Keep, Single, Count, Min, Max, Sum}
use Rattle.projection_spec.specs.declared.entries.NodeProp.{NodeProp}
use Rattle.projection_spec.specs.declared.entries.NodeEntry.{NodeEntry}
use Rattle.projection_spec.specs.declared.written.WrittenProp.{WrittenProp}
use Rattle.projection_spec.specs.declared.written.WrittenEntry.{WrittenEntry}
use Rattle.json_forms.specs.Fields.{given, field_or}
use Rattle.json_forms.specs.Forms.{name_of, read_name, read_chosen, read_whole}
use Rattle.projection_spec.specs.Given.{parts_of, fits_fields, main_field}
use Rattle.projection_spec.specs.Words.{projected_entry, projected_key, read_orientation, read_aggregation}

-- what parts are called
abbrev pub node_key : NodeProp → List ℕ
node_key prop = prop.key

abbrev pub written_key : WrittenProp → List ℕ
written_key prop = prop.key

abbrev pub node_label : NodeEntry → List ℕ
node_label entry = entry.label

abbrev pub written_kind : WrittenEntry → List ℕ
written_kind entry = entry.kind

-- a key of projected nodes, where each of its fields is right
abbrev pub node_prop_from : Option (List ℕ) → Option (List ℕ) → Option (Option ℤ) → Option NodeProp
node_prop_from (Some key) (Some store) (Some default) = Some (record { key = key; store = store; default = default })
node_prop_from _ _ _ = None

-- a key of projected nodes by what is said of it
abbrev pub node_prop : List ℕ → Data → Option NodeProp
node_prop key value =
    if fits_fields (codes "property" ∷ codes "defaultValue" ∷ []) value
    then node_prop_from (name_of key)
    (field_or read_name key (main_field (codes "property") value))
    (given read_whole (get (codes "defaultValue") value))
    else None

-- the keys of projected nodes
abbrev pub node_props : Data → Option (List NodeProp)
node_props value = parts_of projected_key node_prop node_key value

-- a projected label, where each of its fields is right
abbrev pub node_entry_from : Option (List ℕ) → Option (Option (List ℕ)) → Option (List NodeProp) → Option NodeEntry
node_entry_from (Some label) (Some store) (Some props) = Some (record { label = label; store = store; props = props })
node_entry_from _ _ _ = None

-- a projected label by what is said of it
abbrev pub node_entry : List ℕ → Data → Option NodeEntry
node_entry label value =
    if fits_fields (codes "label" ∷ codes "properties" ∷ []) value
    then node_entry_from (name_of label)
    (field_or read_chosen (Some label) (main_field (codes "label") value))
    (field_or node_props [] (get (codes "properties") value))
    else None

-- entries of a side, which may not be missing altogether
abbrev pub some_entry : {A : Type 0} → List A → Option (List A)
some_entry [] = None
some_entry (entry ∷ entries) = Some (entry ∷ entries)

-- the side of the nodes
abbrev pub node_entries : Data → Option (List NodeEntry)
node_entries value = option_and_then some_entry (parts_of projected_entry node_entry node_label value)

-- a key of projected arcs, where each of its fields is right
abbrev pub written_prop_from : Option (List ℕ) → Option (Option (List ℕ)) → Option (Option ℤ) → Option (Option Rule) → Option WrittenProp
written_prop_from (Some key) (Some store) (Some default) (Some aggregation) =
    Some (record { key = key; store = store; default = default; aggregation = aggregation })
written_prop_from _ _ _ _ = None

-- a key of projected arcs by what is said of it
abbrev pub written_prop : List ℕ → Data → Option WrittenProp
written_prop key value =
    if fits_fields (codes "property" ∷ codes "defaultValue" ∷ codes "aggregation" ∷ []) value
    then written_prop_from (name_of key)
    (field_or read_chosen (Some key) (main_field (codes "property") value))
    (given read_whole (get (codes "defaultValue") value))
    (given read_aggregation (get (codes "aggregation") value))
    else None

-- the keys of projected arcs
abbrev pub written_props : Data → Option (List WrittenProp)
written_props value = parts_of projected_key written_prop written_key value

-- the rule of a key: by its own aggregation, or else by its entry's, or else none groups
abbrev pub rule_in : Option Rule → WrittenProp → Rule
rule_in aggregation prop = unwrap_or (option_or prop.aggregation aggregation) Keep

-- whether a rule counts
abbrev pub is_count : Rule → Bool
is_count Count = true
is_count Keep = false
is_count Single = false
is_count Min = false
is_count Max = false
is_count Sum = false

-- whether a key has a key of the store, or else counts
abbrev pub has_source : Option Rule → WrittenProp → Bool
has_source aggregation prop = is_some prop.store || is_count (rule_in aggregation prop)

-- an entry each of whose keys has a key of the store, or else counts
abbrev pub with_sources : WrittenEntry → Option WrittenEntry
with_sources entry = if list_all (has_source entry.aggregation) entry.props then Some entry else None

-- each key of an entry has a key of the store, or else counts
abbrev pub HasSources : WrittenEntry → Type 0
HasSources entry = list_all (has_source entry.aggregation) entry.props ≡ true

-- a projected type, where each of its fields is right
abbrev pub written_entry_from : Option (List ℕ) → Option (Option (List ℕ)) → Option Orientation → Option (Option Rule) → Option (List WrittenProp) → Option WrittenEntry
written_entry_from (Some kind) (Some store) (Some orientation) (Some aggregation) (Some props) =
    with_sources (record { kind = kind; store = store; orientation = orientation; aggregation = aggregation; props = props })
written_entry_from _ _ _ _ _ = None

-- a projected type by what is said of it
abbrev pub written_entry : List ℕ → Data → Option WrittenEntry
written_entry kind value =
    if fits_fields (codes "type" ∷ codes "orientation" ∷ codes "aggregation" ∷ codes "properties" ∷ []) value
    then written_entry_from (name_of kind)
    (field_or read_chosen (Some kind) (main_field (codes "type") value))
    (field_or read_orientation Natural (get (codes "orientation") value))
    (given read_aggregation (get (codes "aggregation") value))
    (field_or written_props [] (get (codes "properties") value))
    else None

-- the side of the relationships
abbrev pub written_entries : Data → Option (List WrittenEntry)
written_entries value = option_and_then some_entry (parts_of projected_entry written_entry written_kind value)
