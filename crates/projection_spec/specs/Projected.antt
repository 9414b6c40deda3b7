-- What the three arguments of a projection mean.
--   refused_spec nodes rels config    why they are refused, or nothing
--   spec_of nodes rels config         the projection that they are, where they aren't refused
use Rattle.std.specs.Prelude.{ℕ, Bool, true, false, not, ◌&&◌, ◌||◌, List, [], ◌∷◌, map, find, Option, Some, None, option_and_then, codes}
use Rattle.std.specs.Option.{option_map, option_map_or}
use Rattle.std.specs.List.{list_any}
use Rattle.serde_json.specs.Data.{Data}
use Rattle.serde_json.specs.Find.{as_object, get}
use Rattle.graph_model.specs.Lists.{first_there}
use Rattle.graph_model.specs.declared.refusal.Refusal.{Refusal}
use Rattle.graph_model.specs.declared.refusal.Refusal.TheVariants.{BadArgument, MixedAggregation}
use Rattle.json_forms.specs.Fields.{field_or}
use Rattle.json_forms.specs.Forms.{before_others}
use Rattle.projection_spec.specs.declared.entries.Rule.{Rule}
use Rattle.projection_spec.specs.declared.entries.Rule.TheVariants.{Keep, Single, Count, Min, Max, Sum}
use Rattle.projection_spec.specs.declared.entries.NodeProp.{NodeProp}
use Rattle.projection_spec.specs.declared.entries.NodeEntry.{NodeEntry}
use Rattle.projection_spec.specs.declared.entries.RelProp.{RelProp}
use Rattle.projection_spec.specs.declared.written.WrittenProp.{WrittenProp}
use Rattle.projection_spec.specs.declared.written.WrittenEntry.{WrittenEntry}
use Rattle.projection_spec.specs.Fields.{RelFields, SpecFields}
use Rattle.projection_spec.specs.Given.{joined}
use Rattle.projection_spec.specs.Written.{node_key, written_key, node_props, written_props, node_entries, written_entries, rule_in, with_sources}

-- an entry with the keys of the configuration that it doesn't have itself
abbrev pub full_node_entry : List NodeProp → NodeEntry → Option NodeEntry
full_node_entry added entry = option_map (λ props. record entry { props = props }) (joined node_key entry.props added)

abbrev pub full_written_entry : List WrittenProp → WrittenEntry → Option WrittenEntry
full_written_entry added entry =
    option_and_then (λ props. with_sources (record entry { props = props })) (joined written_key entry.props added)

-- each entry with the keys of the configuration
abbrev pub full_node_entries : List NodeProp → List NodeEntry → Option (List NodeEntry)
full_node_entries added [] = Some []
full_node_entries added (entry ∷ entries) = before_others (full_node_entry added entry) (full_node_entries added entries)

abbrev pub full_written_entries : List WrittenProp → List WrittenEntry → Option (List WrittenEntry)
full_written_entries added [] = Some []
full_written_entries added (entry ∷ entries) = before_others (full_written_entry added entry) (full_written_entries added entries)

-- the keys that a configuration adds to nodes, and to relationships
abbrev pub added_node_props : Data → Option (List NodeProp)
added_node_props config = field_or node_props [] (get (codes "nodeProperties") config)

abbrev pub added_rel_props : Data → Option (List WrittenProp)
added_rel_props config = field_or written_props [] (get (codes "relationshipProperties") config)

-- entries of the nodes, with what the configuration adds
abbrev pub all_nodes : List NodeEntry → Data → Option (List NodeEntry)
all_nodes own config = option_and_then (λ added. full_node_entries added own) (added_node_props config)

-- entries of the relationships, with what the configuration adds
abbrev pub all_rels : List WrittenEntry → Data → Option (List WrittenEntry)
all_rels own config = option_and_then (λ added. full_written_entries added own) (added_rel_props config)

-- whether a rule keeps each arc
abbrev pub is_keep : Rule → Bool
is_keep Keep = true
is_keep Single = false
is_keep Count = false
is_keep Min = false
is_keep Max = false
is_keep Sum = false

-- whether a rule makes groups
abbrev pub is_grouping : Rule → Bool
is_grouping rule = not (is_keep rule)

-- whether the aggregation that an entry is given, or the rule of one of its keys, is of a kind
abbrev pub some_rule : (Rule → Bool) → WrittenEntry → Bool
some_rule test entry =
    option_map_or test entry.aggregation false || list_any test (map (rule_in entry.aggregation) entry.props)

-- whether an entry makes groups
abbrev pub is_grouped : WrittenEntry → Bool
is_grouped entry = some_rule is_grouping entry

-- whether an entry keeps each arc and makes groups at once
abbrev pub is_mixed : WrittenEntry → Bool
is_mixed entry = is_grouped entry && some_rule is_keep entry

-- a key with its rule
abbrev pub settled_prop : Option Rule → WrittenProp → RelProp
settled_prop aggregation prop =
    record { key = prop.key; store = prop.store; default = prop.default; rule = rule_in aggregation prop }

-- an entry with its rules
abbrev pub settled_entry : WrittenEntry → RelFields
settled_entry entry =
    record {
      kind = entry.kind;
      store = entry.store;
      orientation = entry.orientation;
      grouped = is_grouped entry;
      props = map (settled_prop entry.aggregation) entry.props;
    }

-- why an argument is refused: it is wrong
abbrev pub wrong_at : {A : Type 0} → List ℕ → Option A → Option Refusal
wrong_at at None = Some (BadArgument at 0)
wrong_at at (Some value) = None

-- why entries of relationships are refused: the first of them is mixed
abbrev pub mixed_in : List WrittenEntry → Option Refusal
mixed_in entries = option_map (λ entry. MixedAggregation entry.kind) (find is_mixed entries)

-- why the configuration is refused, where these are the entries: by its first key that is wrong, or else by a mixed entry
abbrev pub refused_keys : List NodeEntry → List WrittenEntry → Data → Option Refusal
refused_keys nodes rels config = first_there (wrong_at (codes "configuration.nodeProperties") (all_nodes nodes config))
    (first_there (wrong_at (codes "configuration.relationshipProperties") (all_rels rels config))
    (option_and_then mixed_in (all_rels rels config)))

-- why the arguments are refused: by the first that is wrong, or else by a mixed entry
abbrev pub refused_parts : Option (List NodeEntry) → Option (List WrittenEntry) → Data → Option Refusal
refused_parts None rels config = Some (BadArgument (codes "nodeProjection") 0)
refused_parts (Some nodes) None config = Some (BadArgument (codes "relationshipProjection") 0)
refused_parts (Some nodes) (Some rels) config =
    first_there (wrong_at (codes "configuration") (as_object config)) (refused_keys nodes rels config)

abbrev pub refused_spec : Data → Data → Data → Option Refusal
refused_spec nodes rels config = refused_parts (node_entries nodes) (written_entries rels) config

-- the projection of these entries
abbrev pub spec_from : Option (List NodeEntry) → Option (List WrittenEntry) → Option SpecFields
spec_from (Some nodes) (Some rels) = Some (record { nodes = nodes; rels = map settled_entry rels })
spec_from (Some nodes) None = None
spec_from None rels = None

abbrev pub spec_parts : Option (List NodeEntry) → Option (List WrittenEntry) → Data → Option SpecFields
spec_parts (Some nodes) (Some rels) config = spec_from (all_nodes nodes config) (all_rels rels config)
spec_parts (Some nodes) None config = None
spec_parts None rels config = None

abbrev pub spec_of : Data → Data → Data → Option SpecFields
spec_of nodes rels config = spec_parts (node_entries nodes) (written_entries rels) config
