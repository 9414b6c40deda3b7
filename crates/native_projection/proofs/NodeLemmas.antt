-- Nodes in columns, read back as projected nodes.
use Rattle.std.proofs.Common.{◌≡◌, ℕ, ◌+◌, ℤ, Bool, true, false, cond, List, [], ◌∷◌, ◌++◌, length, map, refl, sym, ap, ◌∙◌}
use Rattle.std.proofs.lemmas.List.{length-map}
use Rattle.std.specs.List.{filter, range_with_len}
use Rattle.graph_model.specs.declared.graph.Node.{Node}
use Rattle.graph_model.specs.declared.graph.PropertyGraph.{PropertyGraph}
use Rattle.graph_model.specs.Projection.{missing_value}
use Rattle.projection_spec.specs.declared.entries.NodeEntry.{NodeEntry}
use Rattle.projection_spec.specs.Fields.{SpecFields}
use Rattle.projection_spec.specs.RawArcs.{takes_node}
use Rattle.projection_spec.specs.NativeProjection.{label_of, node_keys, node_labels, node_value, projected_node, kept_nodes, projection_with}
use Rattle.csr_columns.specs.declared.parts.Parts.{Parts}
use Rattle.csr_columns.specs.declared.parts.TypeColumns.{TypeColumns}
use Rattle.csr_columns.specs.Rows.{names_of}
use Rattle.csr_columns.specs.Plain.{is_flagged, labels_at, value_of, values_at, plain_node, plain_type, plain}
use Rattle.projected_nodes.specs.Columns.{id_of, is_taken_by, value_under, label_column, key_column}
use Rattle.projected_arcs.proofs.ListLemmas.{map-at-middle, length-push, push-front}
use Rattle.native_projection.specs.Making.{made_parts}
use Rattle.native_projection.proofs.IdLemmas.{kept_ids}

-- ---- names

pub labels-named : (nodes : List Node) (entries : List NodeEntry) → names_of (map (label_column nodes) entries) ≡ map label_of entries
labels-named nodes [] = refl
labels-named nodes (entry ∷ entries) = ap (λ names. entry.label ∷ names) (labels-named nodes entries)

pub keys-named : (entries : List NodeEntry) (nodes : List Node) (keys : List (List ℕ)) → names_of (map (key_column entries nodes) keys) ≡ keys
keys-named entries nodes [] = refl
keys-named entries nodes (key ∷ keys) = ap (λ names. key ∷ names) (keys-named entries nodes keys)

-- ---- one node

module _ (front : List Node) (node : Node) (back : List Node) where
  abbrev nodes : List Node
  nodes = front ++ node ∷ back

  abbrev place : ℕ
  place = length front

  labels-read : (entries : List NodeEntry) → labels_at (map (label_column nodes) entries) place ≡ map label_of (filter (takes_node node) entries)
  labels-read [] = refl
  labels-read (entry ∷ entries) =
      let columns = map (label_column nodes) entries in
      ap (λ b. names_of (cond b (label_column nodes entry ∷ filter (is_flagged place) columns) (filter (is_flagged place) columns))) (map-at-middle (is_taken_by entry) front node back false)
      ∙ elim (takes_node node entry) as (λ b. names_of (cond b (label_column nodes entry ∷ filter (is_flagged place) columns) (filter (is_flagged place) columns)) ≡ map label_of (cond b (entry ∷ filter (takes_node node) entries) (filter (takes_node node) entries)))
      [ true ↦ ap (λ names. entry.label ∷ names) (labels-read entries) | false ↦ labels-read entries ]

  values-read : (entries : List NodeEntry) (keys : List (List ℕ)) → values_at (map (key_column entries nodes) keys) place ≡ map (node_value entries node) keys
  values-read entries [] = refl
  values-read entries (key ∷ keys) =
      ap (λ v. v ∷ values_at (map (key_column entries nodes) keys) place) (map-at-middle (value_under entries key) front node back missing_value)
      ∙ ap (λ vs. node_value entries node key ∷ vs) (values-read entries keys)

-- ---- all nodes

module _ (entries : List NodeEntry) (types : List TypeColumns) where
  abbrev parts_for : List Node → Parts
  parts_for nodes = record { ids = map id_of nodes; labels = map (label_column nodes) entries; columns = map (key_column entries nodes) (node_keys entries); types = types }

  node-read : (front : List Node) (node : Node) (back : List Node) → plain_node (parts_for (front ++ node ∷ back)) (length front) ≡ projected_node entries (node_keys entries) node
  node-read front node back =
      let all = front ++ node ∷ back in
      ap (λ id. record { id = id; labels = labels_at (map (label_column all) entries) (length front); values = values_at (map (key_column entries all) (node_keys entries)) (length front) }) (map-at-middle id_of front node back 0)
      ∙ ap (λ labels. record { id = node.id; labels = labels; values = values_at (map (key_column entries all) (node_keys entries)) (length front) }) (labels-read front node back entries)
      ∙ ap (λ values. record { id = node.id; labels = node_labels entries node; values = values }) (values-read front node back entries (node_keys entries))

  nodes-behind : (front nodes : List Node) → map (plain_node (parts_for (front ++ nodes))) (range_with_len (length front) (length nodes)) ≡ map (projected_node entries (node_keys entries)) nodes
  nodes-behind front [] = refl
  nodes-behind front (node ∷ nodes) =
      let all = front ++ node ∷ nodes in
      ap (λ n. n ∷ map (plain_node (parts_for all)) (range_with_len (length front + 1) (length nodes))) (node-read front node nodes)
      ∙ ap (λ ns. projected_node entries (node_keys entries) node ∷ ns)
      (ap (λ k. map (plain_node (parts_for all)) (range_with_len k (length nodes))) (sym (length-push front node))
      ∙ ap (λ ns. map (plain_node (parts_for ns)) (range_with_len (length (front ++ node ∷ [])) (length nodes))) (sym (push-front front node nodes))
      ∙ nodes-behind (front ++ node ∷ []) nodes)

  nodes-read : (nodes : List Node) → map (plain_node (parts_for nodes)) (range_with_len 0 (length (map id_of nodes))) ≡ map (projected_node entries (node_keys entries)) nodes
  nodes-read nodes = ap (λ k. map (plain_node (parts_for nodes)) (range_with_len 0 k)) (length-map nodes id_of) ∙ nodes-behind [] nodes

-- a projection in columns, read back
pub made-plain : (spec : SpecFields) (g : PropertyGraph) (types : List TypeColumns) → plain (made_parts spec g types) ≡ projection_with spec g (map (plain_type (kept_ids g spec.nodes)) types)
made-plain spec g types =
    let kept = kept_nodes g spec.nodes in
    let made_types = map (plain_type (kept_ids g spec.nodes)) types in
    ap (λ nodes. record { nodes = nodes; labels = names_of (map (label_column kept) spec.nodes); keys = names_of (map (key_column spec.nodes kept) (node_keys spec.nodes)); types = made_types }) (nodes-read spec.nodes types kept)
    ∙ ap (λ labels. record { nodes = map (projected_node spec.nodes (node_keys spec.nodes)) kept; labels = labels; keys = names_of (map (key_column spec.nodes kept) (node_keys spec.nodes)); types = made_types }) (labels-named kept spec.nodes)
    ∙ ap (λ keys. record { nodes = map (projected_node spec.nodes (node_keys spec.nodes)) kept; labels = map label_of spec.nodes; keys = keys; types = made_types }) (keys-named spec.nodes kept (node_keys spec.nodes))
