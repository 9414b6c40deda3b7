-- The types of a projection, among the ids of its nodes.
use Rattle.std.proofs.Common.{◌≡◌, ℕ, ◌+◌, ◌≤◌, Bool, true, false, cond, eqb, nat_le, ◌&&◌, ◌||◌, is_some, List, [], ◌∷◌, length, map, Option, Some, None, Result, Ok, Err, refl, sym, ap, ◌∙◌, true≢false, arith}
use Rattle.std.specs.List.{enumerate_from, filter, flat_map, list_any, sum_by}
use Rattle.std.specs.Result.{is_ok}
use Rattle.graph_model.specs.declared.graph.Node.{Node}
use Rattle.graph_model.specs.declared.graph.Rel.{Rel}
use Rattle.graph_model.specs.declared.graph.PropertyGraph.{PropertyGraph}
use Rattle.graph_model.specs.declared.refusal.Refusal.{Refusal}
use Rattle.graph_model.specs.declared.refusal.Refusal.TheVariants.{Full}
use Rattle.graph_model.specs.declared.refusal.Quantity.TheVariants.{Arcs}
use Rattle.graph_model.specs.Lists.{in_order}
use Rattle.graph_model.specs.Projection.{ProjectedType, most_arcs, type_arc_count}
use Rattle.projection_spec.specs.declared.arcs.Grouped.{Grouped}
use Rattle.projection_spec.specs.declared.entries.NodeEntry.{NodeEntry}
use Rattle.projection_spec.specs.Fields.{RelFields, SpecFields}
use Rattle.projection_spec.specs.RawArcs.{is_projected, is_projected_id, is_asked_for, becomes_arcs, arcs_of, arc_before, raw_arcs}
use Rattle.projection_spec.specs.KeptArcs.{SumOut, kept_arcs}
use Rattle.projection_spec.specs.NativeProjection.{type_of, before_types, projected_types, projected, refused_names, within_limit, unless_refused, projection_with}
use Rattle.csr_columns.specs.declared.parts.TypeColumns.{TypeColumns}
use Rattle.csr_columns.specs.Parts.{arcs_in, kind_of}
use Rattle.csr_columns.specs.Plain.{plain_arc, plain_arcs, plain_type}
use Rattle.csr_columns.proofs.Counted.{types-count}
use Rattle.projected_nodes.specs.Columns.{id_of}
use Rattle.projected_arcs.specs.Places.{place_from, place_of}
use Rattle.projected_arcs.specs.Types.{joins_among, arcs_among, type_among}
use Rattle.projected_arcs.proofs.GroupedLemmas.{same_Ok}
use Rattle.native_projection.specs.Making.{types_among}
use Rattle.native_projection.proofs.IdLemmas.{kept_ids}

-- ---- a node is projected where its id has a place

projected-placed : (entries : List NodeEntry) (id first : ℕ) (nodes : List Node) → list_any (λ node. eqb node.id id && is_projected entries node) nodes ≡ is_some (place_from first (map id_of (filter (is_projected entries) nodes)) id)
projected-placed entries id first [] = refl
projected-placed entries id first (node ∷ nodes) =
    let rest = list_any (λ (n : Node). eqb n.id id && is_projected entries n) nodes in
    let kept = filter (is_projected entries) nodes in
    elim (is_projected entries node) as (λ p. ((eqb node.id id && p) || rest) ≡ is_some (place_from first (map id_of (cond p (node ∷ kept) kept)) id)) [
      | true ↦
          elim (eqb node.id id) as (λ e. ((e && true) || rest) ≡ is_some (cond e (Some first) (place_from (first + 1) (map id_of kept) id)))
          [ true ↦ refl | false ↦ projected-placed entries id (first + 1) nodes ]
      | false ↦
          elim (eqb node.id id) as (λ e. ((e && false) || rest) ≡ is_some (place_from first (map id_of kept) id))
          [ true ↦ projected-placed entries id first nodes | false ↦ projected-placed entries id first nodes ]
    ]

becomes-joins : (g : PropertyGraph) (entries : List NodeEntry) (entry : RelFields) (rel : Rel) → becomes_arcs g entries entry rel ≡ joins_among (kept_ids g entries) entry rel
becomes-joins g entries entry rel =
    ap (λ s. is_asked_for entry.store rel.kind && s && is_projected_id g entries rel.target) (projected-placed entries rel.source 0 g.nodes)
    ∙ ap (λ t. is_asked_for entry.store rel.kind && is_some (place_of (kept_ids g entries) rel.source) && t) (projected-placed entries rel.target 0 g.nodes)

filter-same : (p q : Rel → Bool) (rels : List Rel) → ((rel : Rel) → p rel ≡ q rel) → filter p rels ≡ filter q rels
filter-same p q [] same = refl
filter-same p q (rel ∷ rels) same =
    ap (λ b. cond b (rel ∷ filter p rels) (filter p rels)) (same rel)
    ∙ ap (λ rest. cond (q rel) (rel ∷ rest) rest) (filter-same p q rels same)

type-same : (g : PropertyGraph) (entries : List NodeEntry) (entry : RelFields) → type_of entry (kept_arcs entry (raw_arcs g entries entry)) ≡ type_among (kept_ids g entries) g entry
type-same g entries entry =
    ap (λ rels. type_of entry (kept_arcs entry (in_order arc_before (flat_map (arcs_of entry) rels))))
    (filter-same (becomes_arcs g entries entry) (joins_among (kept_ids g entries) entry) g.rels (becomes-joins g entries entry))

types-same : (g : PropertyGraph) (entries : List NodeEntry) (rels : List RelFields) → projected_types g entries rels ≡ types_among (kept_ids g entries) g rels
types-same g entries [] = refl
types-same g entries (entry ∷ rels) =
    ap (λ type. before_types type (projected_types g entries rels)) (type-same g entries entry)
    ∙ ap (before_types (type_among (kept_ids g entries) g entry)) (types-same g entries rels)

-- what is projected, where the names are known
pub projected-known : (spec : SpecFields) (g : PropertyGraph) → refused_names spec g ≡ None → projected spec g ≡ within_limit spec g (types_among (kept_ids g spec.nodes) g spec.rels)
projected-known spec g known = ap (λ r. unless_refused r spec g) known ∙ ap (within_limit spec g) (types-same g spec.nodes spec.rels)

-- ---- how many arcs there are

-- types that are few enough make the projection, and others are refused
pub projected-fits : (spec : SpecFields) (g : PropertyGraph) (types : List TypeColumns) → refused_names spec g ≡ None → types_among (kept_ids g spec.nodes) g spec.rels ≡ Ok (map (plain_type (kept_ids g spec.nodes)) types) → nat_le (arcs_in types) most_arcs ≡ true
    → projected spec g ≡ Ok (projection_with spec g (map (plain_type (kept_ids g spec.nodes)) types))
projected-fits spec g types known are few =
    projected-known spec g known
    ∙ ap (within_limit spec g) are
    ∙ ap (λ n. cond (nat_le n most_arcs) (Ok (projection_with spec g (map (plain_type (kept_ids g spec.nodes)) types))) (Err (Full Arcs most_arcs 0))) (types-count (kept_ids g spec.nodes) types)
    ∙ ap (λ b. cond b (Ok (projection_with spec g (map (plain_type (kept_ids g spec.nodes)) types))) (Err (Full Arcs most_arcs 0))) few

pub projected-full : (spec : SpecFields) (g : PropertyGraph) (types : List TypeColumns) → refused_names spec g ≡ None → types_among (kept_ids g spec.nodes) g spec.rels ≡ Ok (map (plain_type (kept_ids g spec.nodes)) types) → nat_le (arcs_in types) most_arcs ≡ false
    → projected spec g ≡ Err (Full Arcs most_arcs 0)
projected-full spec g types known are many =
    projected-known spec g known
    ∙ ap (within_limit spec g) are
    ∙ ap (λ n. cond (nat_le n most_arcs) (Ok (projection_with spec g (map (plain_type (kept_ids g spec.nodes)) types))) (Err (Full Arcs most_arcs 0))) (types-count (kept_ids g spec.nodes) types)
    ∙ ap (λ b. cond b (Ok (projection_with spec g (map (plain_type (kept_ids g spec.nodes)) types))) (Err (Full Arcs most_arcs 0))) many

pub projected-refused : (spec : SpecFields) (g : PropertyGraph) (why : Refusal) → refused_names spec g ≡ None → types_among (kept_ids g spec.nodes) g spec.rels ≡ Err why → projected spec g ≡ Err why
projected-refused spec g why known is = projected-known spec g known ∙ ap (within_limit spec g) is

-- ---- the names of types are those of the entries

abbrev pub name_of : ProjectedType → List ℕ
name_of type = type.name

abbrev pub kind_asked : RelFields → List ℕ
kind_asked entry = entry.kind

named-one : (entry : RelFields) (kept : Result (List Grouped) SumOut) (type : ProjectedType) → type_of entry kept ≡ Ok type → type.name ≡ entry.kind
named-one entry (Ok arcs) type is = ap name_of (sym (same_Ok _ type is))
named-one entry (Err out) type is = absurd (true≢false (sym (ap is_ok is)))

pub types-named : (ids : List ℕ) (g : PropertyGraph) (entries : List RelFields) (types : List ProjectedType) → types_among ids g entries ≡ Ok types → map name_of types ≡ map kind_asked entries
types-named ids g [] types is = ap (map name_of) (sym (same_Ok [] types is))
types-named ids g (entry ∷ entries) types is = by (λ others o. types-named ids g entries others o) (type_among ids g entry) (types_among ids g entries) refl refl is
  where
    by : ((others : List ProjectedType) → types_among ids g entries ≡ Ok others → map name_of others ≡ map kind_asked entries) → (first : Result ProjectedType Refusal) (rest : Result (List ProjectedType) Refusal)
        → type_among ids g entry ≡ first → types_among ids g entries ≡ rest → before_types first rest ≡ Ok types → map name_of types ≡ map kind_asked (entry ∷ entries)
    by later (Err why) rest f r e = absurd (true≢false (sym (ap is_ok e)))
    by later (Ok type) (Ok others) f r e =
        ap (map name_of) (sym (same_Ok (type ∷ others) types e))
        ∙ ap (λ name. name ∷ map name_of others) (named-one entry (kept_arcs entry (arcs_among ids g entry)) type f)
        ∙ ap (λ names. entry.kind ∷ names) (later others r)
    by later (Ok type) (Err why) f r e = absurd (true≢false (sym (ap is_ok e)))

pub kinds-named : (ids : List ℕ) (types : List TypeColumns) → map kind_of types ≡ map name_of (map (plain_type ids) types)
kinds-named ids [] = refl
kinds-named ids (type ∷ types) = ap (λ names. type.kind ∷ names) (kinds-named ids types)
