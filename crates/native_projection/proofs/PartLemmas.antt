-- The columns of a projection fit together.
use Rattle.std.proofs.Common.{◌≡◌, ℕ, ◌≤◌, ℤ, Bool, true, false, cond, nat_le, List, [], ◌∷◌, length, map, Ok, refl, sym, ap, subst, ◌∙◌, ⊎_elim, arith}
use Rattle.std.proofs.lemmas.Bool.{cases_Bool}
use Rattle.std.proofs.lemmas.Bool.{leb-true}
use Rattle.std.proofs.lemmas.List.{length-map}
use Rattle.std.proofs.lemmas.List.Elements.{All-from_recursion}
use Rattle.std.specs.List.{All, AllByRecursion, flat_map, insert}
use Rattle.graph_model.specs.declared.graph.Node.{Node}
use Rattle.graph_model.specs.declared.graph.PropertyGraph.{PropertyGraph}
use Rattle.graph_model.specs.Graph.{IsValidGraph, IsWithinLimits}
use Rattle.graph_model.specs.Lists.{Pairwise}
use Rattle.graph_model.specs.Names.{IsBefore}
use Rattle.graph_model.specs.Projection.{is_among, place_among, most_arcs}
use Rattle.projection_spec.specs.declared.entries.NodeEntry.{NodeEntry}
use Rattle.projection_spec.specs.Fields.{RelFields, SpecFields, HasAscendingNames, LabelBefore, KindBefore}
use Rattle.projection_spec.specs.NativeProjection.{label_of, with_name, with_names, entry_keys, node_keys, kept_nodes}
use Rattle.csr_columns.specs.declared.parts.TypeColumns.{TypeColumns}
use Rattle.csr_columns.specs.Parts.{FitTogether, IsLong, HasNodes, arcs_in, columns_of, kind_of}
use Rattle.csr_columns.specs.Plain.{plain_type}
use Rattle.csr_columns.proofs.WithColumn.{Pairwise-inserted}
use Rattle.projected_nodes.specs.Columns.{id_of, is_taken_by, value_under, label_column, key_column}
use Rattle.native_projection.specs.Making.{types_among, made_parts}
use Rattle.native_projection.proofs.IdLemmas.{kept_ids, kept_ids-ascend, kept_ids-few}
use Rattle.native_projection.proofs.NodeLemmas.{labels-named, keys-named}
use Rattle.native_projection.proofs.ArcLemmas.{kind_asked, name_of, types-named, kinds-named}

-- ---- names ascend

labels-above : (entry : NodeEntry) (entries : List NodeEntry) → AllByRecursion (LabelBefore entry) entries → AllByRecursion (IsBefore entry.label) (map label_of entries)
labels-above entry [] above = tt
labels-above entry (next ∷ entries) above = (above.0, labels-above entry entries above.1)

labels-ascend : (entries : List NodeEntry) → Pairwise LabelBefore entries → Pairwise IsBefore (map label_of entries)
labels-ascend [] up = tt
labels-ascend (entry ∷ entries) up = (labels-above entry entries up.0, labels-ascend entries up.1)

kinds-above : (entry : RelFields) (entries : List RelFields) → AllByRecursion (KindBefore entry) entries → AllByRecursion (IsBefore entry.kind) (map kind_asked entries)
kinds-above entry [] above = tt
kinds-above entry (next ∷ entries) above = (above.0, kinds-above entry entries above.1)

kinds-ascend : (entries : List RelFields) → Pairwise KindBefore entries → Pairwise IsBefore (map kind_asked entries)
kinds-ascend [] up = tt
kinds-ascend (entry ∷ entries) up = (kinds-above entry entries up.0, kinds-ascend entries up.1)

name-ascends : (names : List (List ℕ)) (name : List ℕ) → Pairwise IsBefore names → Pairwise IsBefore (with_name names name)
name-ascends names name up =
    ⊎_elim
    (λ (there : is_among names name ≡ true). subst (λ b. Pairwise IsBefore (cond b names (insert names (place_among names name) name))) (sym there) up)
    (λ (missing : is_among names name ≡ false). subst (λ b. Pairwise IsBefore (cond b names (insert names (place_among names name) name))) (sym missing) (Pairwise-inserted names name up missing))
    (cases_Bool (is_among names name))

names-ascend : (names more : List (List ℕ)) → Pairwise IsBefore names → Pairwise IsBefore (with_names names more)
names-ascend names [] up = up
names-ascend names (name ∷ more) up = names-ascend (with_name names name) more (name-ascends names name up)

-- ---- columns are long enough

flags-long : (nodes : List Node) (entries : List NodeEntry) → AllByRecursion (IsLong (length (map id_of nodes))) (columns_of (map (label_column nodes) entries))
flags-long nodes [] = tt
flags-long nodes (entry ∷ entries) = (length-map nodes (is_taken_by entry) ∙ sym (length-map nodes id_of), flags-long nodes entries)

values-long : (entries : List NodeEntry) (nodes : List Node) (keys : List (List ℕ)) → AllByRecursion (IsLong (length (map id_of nodes))) (columns_of (map (key_column entries nodes) keys))
values-long entries nodes [] = tt
values-long entries nodes (key ∷ keys) = (length-map nodes (value_under entries key) ∙ sym (length-map nodes id_of), values-long entries nodes keys)

-- the columns of a projection fit together
pub parts-fit : (spec : SpecFields) (g : PropertyGraph) (types : List TypeColumns) → IsValidGraph g → IsWithinLimits g → HasAscendingNames spec.nodes spec.rels
    → types_among (kept_ids g spec.nodes) g spec.rels ≡ Ok (map (plain_type (kept_ids g spec.nodes)) types) → All (HasNodes (length (kept_ids g spec.nodes))) types → nat_le (arcs_in types) most_arcs ≡ true
    → FitTogether (made_parts spec g types)
parts-fit spec g types valid limits names are rows few =
    let kept = kept_nodes g spec.nodes in
    let keys = node_keys spec.nodes in
    let ids = kept_ids g spec.nodes in
    record {
      ids_ascend = kept_ids-ascend g spec.nodes valid;
      labels_ascend = subst (Pairwise IsBefore) (sym (labels-named kept spec.nodes)) (labels-ascend spec.nodes names.labels);
      keys_ascend = subst (Pairwise IsBefore) (sym (keys-named spec.nodes kept keys)) (names-ascend [] (flat_map entry_keys spec.nodes) tt);
      types_ascend = subst (Pairwise IsBefore) (sym (kinds-named ids types ∙ types-named ids g spec.rels (map (plain_type ids) types) are)) (kinds-ascend spec.rels names.kinds);
      flags = All-from_recursion (IsLong (length ids)) (columns_of (map (label_column kept) spec.nodes)) (flags-long kept spec.nodes);
      values = All-from_recursion (IsLong (length ids)) (columns_of (map (key_column spec.nodes kept) keys)) (values-long spec.nodes kept keys);
      rows = rows;
      few_nodes = kept_ids-few g spec.nodes valid limits;
      few_arcs = leb-true (arcs_in types) most_arcs few;
    }
