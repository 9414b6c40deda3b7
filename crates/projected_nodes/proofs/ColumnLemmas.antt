-- Columns that are made item by item.
use Rattle.std.proofs.Common.{◌≡◌, ℕ, ◌+◌, ◌<◌, ℤ, Bool, List, [], ◌∷◌, ◌++◌, Bor, length, map, take, get_or, refl, sym, ap, ◌∙◌}
use Rattle.std.proofs.lemmas.List.{map_more}
use Rattle.graph_model.specs.declared.graph.Node.{Node}
use Rattle.projection_spec.specs.declared.entries.NodeEntry.{NodeEntry}
use Rattle.projection_spec.specs.NativeProjection.{node_keys}
use Rattle.projected_nodes.specs.declared.columns.NodeColumns.{NodeColumns}
use Rattle.projected_nodes.specs.Columns.{id_of, is_taken_by, value_under, label_column, key_column, node_columns}
use Rattle.projected_nodes.proofs.NodeLemmas.{shown, map-shown}

-- one more item of a list that is made by a function
pub made-next : {X Y : Type 0} (f : X → Y) (xs : List X) (i : ℕ) (x : X) (so_far new : List Y) (y : Y) → i < length xs → x ≡ get_or xs i x → so_far ≡ map f (take i xs) → new ≡ so_far ++ y ∷ [] → y ≡ f x → new ≡ map f (take (i + 1) xs)
made-next f xs i x so_far new y within is made pushed made_is =
    pushed
    ∙ ap (λ z. so_far ++ z ∷ []) (made_is ∙ ap f is)
    ∙ ap (λ zs. zs ++ f (get_or xs i x) ∷ []) made
    ∙ sym (map_more f xs i x within)

pub label-made : (nodes : List (Bor Node)) (entry : NodeEntry) (label : List ℕ) (flags : List Bool) → label ≡ entry.label → flags ≡ map (λ node. is_taken_by entry node.now) nodes → (label, flags) ≡ label_column (shown nodes) entry
label-made nodes entry label flags named are =
    ap (λ name. (name, flags)) named ∙ ap (λ fs. (entry.label, fs)) (are ∙ map-shown (is_taken_by entry) nodes)

pub key-made : (entries : List NodeEntry) (nodes : List (Bor Node)) (key copy : List ℕ) (values : List ℤ) → copy ≡ key → values ≡ map (λ node. value_under entries key node.now) nodes → (copy, values) ≡ key_column entries (shown nodes) key
key-made entries nodes key copy values named are =
    ap (λ name. (name, values)) named ∙ ap (λ vs. (key, vs)) (are ∙ map-shown (value_under entries key) nodes)

pub columns-made : (entries : List NodeEntry) (nodes : List (Bor Node)) (kept : List Node) (keys : List (List ℕ)) (ids : List ℕ) (labels : List (List ℕ × List Bool)) (columns : List (List ℕ × List ℤ))
    → shown nodes ≡ kept → keys ≡ node_keys entries → ids ≡ map (λ node. id_of node.now) nodes → labels ≡ map (label_column (shown nodes)) entries → columns ≡ map (key_column entries (shown nodes)) keys
    → ◌≡◌ {A = NodeColumns} (record { ids = ids; labels = labels; columns = columns }) (node_columns entries kept)
columns-made entries nodes kept keys ids labels columns shown_is keys_are ids_are labels_are columns_are =
    rw (ids_are, map-shown id_of nodes, labels_are, columns_are, keys_are, shown_is) refl
