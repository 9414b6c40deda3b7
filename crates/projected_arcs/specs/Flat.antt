-- Arcs of relationships in one flat list.
--   joins_placed slots entry rel      whether a relationship becomes arcs: it is of the type, and both ends have places
--   flat_arcs orientation first rels  the arcs of relationships, where the first has this place
--   flat_cmp                          the order of arcs: by source, by target, and by the place of the relationship
--   raw_of rels props arc             a raw arc, read from its relationship
--   arc_column rels arcs prop         a key with a value for each arc, where each arc is kept
--   flat_ends slots arc               the places of the ends of an arc
use Rattle.std.specs.Prelude.{ℕ, ◌+◌, ◌<◌, ℤ, Bool, ◌&&◌, List, [], ◌∷◌, ◌++◌, map, is_some, unwrap_or, slice_index_or}
use Rattle.std.specs.Option.{option_or}
use Rattle.std.specs.declared.cmp.Ordering.{Ordering}
use Rattle.std.specs.Ordering.{nat_cmp, ordering_then, is_lt}
use Rattle.graph_model.specs.declared.graph.Prop.{Prop}
use Rattle.graph_model.specs.declared.graph.Rel.{Rel}
use Rattle.graph_model.specs.declared.graph.Orientation.{Orientation}
use Rattle.graph_model.specs.declared.graph.Orientation.TheVariants.{Natural, Reverse, Undirected}
use Rattle.graph_model.specs.Projection.{missing_value}
use Rattle.projection_spec.specs.declared.arcs.RawArc.{RawArc}
use Rattle.projection_spec.specs.declared.entries.RelProp.{RelProp}
use Rattle.projection_spec.specs.Fields.{RelFields}
use Rattle.projection_spec.specs.RawArcs.{is_asked_for, arc_of, stored_cell}
use Rattle.projected_arcs.specs.declared.flat.FlatArc.{FlatArc}
use Rattle.projected_arcs.specs.Places.{slot_at, place_or_zero}

-- whether a relationship becomes arcs of an entry: it is of the type that is asked for, and both its ends have places
abbrev pub joins_placed : List ℕ → RelFields → Rel → Bool
joins_placed slots entry rel =
    is_asked_for entry.store rel.kind && is_some (slot_at slots rel.source) && is_some (slot_at slots rel.target)

-- an arc of the relationship at a place
abbrev pub flat_arc : ℕ → ℕ → ℕ → FlatArc
flat_arc place source target = record { source = source; target = target; place = place }

-- the arcs of the relationship at a place
abbrev pub turned_flat : Orientation → ℕ → Rel → List FlatArc
turned_flat Natural place rel = flat_arc place rel.source rel.target ∷ []
turned_flat Reverse place rel = flat_arc place rel.target rel.source ∷ []
turned_flat Undirected place rel = flat_arc place rel.source rel.target ∷ flat_arc place rel.target rel.source ∷ []

-- how many arcs a relationship becomes
abbrev pub ways : Orientation → ℕ
ways Natural = 1
ways Reverse = 1
ways Undirected = 2

-- the arcs of relationships, of which the first has this place
abbrev pub flat_arcs : Orientation → ℕ → List Rel → List FlatArc
flat_arcs orientation first [] = []
flat_arcs orientation first (rel ∷ rels) = turned_flat orientation first rel ++ flat_arcs orientation (first + 1) rels

-- the order of arcs: by source, by target, and by the place of the relationship
abbrev pub flat_cmp : FlatArc → FlatArc → Ordering
flat_cmp a b = ordering_then (nat_cmp a.source b.source) (ordering_then (nat_cmp a.target b.target) (nat_cmp a.place b.place))

-- whether an arc comes before another
abbrev pub flat_before : FlatArc → FlatArc → Bool
flat_before a b = is_lt (flat_cmp a b)

-- no relationship
abbrev pub no_rel : Rel
no_rel = record { id = 0; source = 0; target = 0; kind = []; props = [] }

-- the relationship of an arc
abbrev pub rel_of : List Rel → FlatArc → Rel
rel_of rels arc = slice_index_or rels arc.place no_rel

-- a raw arc, read from its relationship
abbrev pub raw_of : List Rel → List RelProp → FlatArc → RawArc
raw_of rels props arc = arc_of props (rel_of rels arc) arc.source arc.target

-- the value of a relationship for a property, where each arc is kept: the stored one, else the default, else the missing one
abbrev pub kept_value : List Prop → RelProp → ℤ
kept_value props prop = unwrap_or (option_or (stored_cell props prop.store) prop.default) missing_value

-- the value of an arc for a property
abbrev pub arc_value : List Rel → RelProp → FlatArc → ℤ
arc_value rels prop arc = kept_value (rel_of rels arc).props prop

-- a key with a value for each arc
abbrev pub arc_column : List Rel → List FlatArc → RelProp → List ℕ × List ℤ
arc_column rels arcs prop = (prop.key, map (arc_value rels prop) arcs)

-- the places of the ends of an arc
abbrev pub flat_ends : List ℕ → FlatArc → ℕ × ℕ
flat_ends slots arc = (place_or_zero slots arc.source, place_or_zero slots arc.target)

-- the relationship of an arc is one of so many
abbrev pub IsWithin : ℕ → FlatArc → Type 0
IsWithin many arc = arc.place < many

-- the value at the place of an arc's relationship
abbrev pub picked_value : List ℤ → FlatArc → ℤ
picked_value values arc = slice_index_or values arc.place missing_value
