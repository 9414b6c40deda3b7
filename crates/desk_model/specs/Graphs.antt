-- Named graphs of a user: what is told of them, and how they are kept and dropped.
--   graph_line job name graph       what is told of a named graph
--   chosen_lines name lists         what is told of all graphs, or of the one of a name
--   with_graph name graph lists     the lists with one more graph, under the next version
--   without_graph name lists        the lists without the graph of a name
--   refused_drop name must lists    why a graph isn't dropped
--   refused_rows name key labels    why a graph has no such rows: the first cause in order
--   graph_rows key labels graph     the values of the chosen nodes
use Rattle.std.specs.Prelude.{ℕ, ◌+◌, ℤ, Bool, ◌&&◌, not, if◌then◌else◌, List, [], ◌∷◌, length, map, filter, Option, Some, None, unwrap_or}
use Rattle.std.specs.Option.{option_map, is_some}
use Rattle.std.specs.List.{zip}
use Rattle.graph_model.specs.declared.graph.Choice.{Choice}
use Rattle.graph_model.specs.declared.refusal.Refusal.{Refusal}
use Rattle.graph_model.specs.declared.refusal.Refusal.TheVariants.{NoSuchGraph, NoSuchLabel, NoSuchProperty}
use Rattle.graph_model.specs.Lists.{first_there}
use Rattle.graph_model.specs.Projection.{ProjectedNode, PlainProjection, missing_value, projected_arc_count, is_among, under}
use Rattle.graph_model.specs.View.{chooses_node, unknown_choice}
use Rattle.user_catalog.specs.Catalog.{inserted, removed}
use Rattle.desk_model.specs.declared.lines.GraphLine.{GraphLine}
use Rattle.desk_model.specs.State.{NamedGraph, UserLists}

-- ---- telling

-- what is told of a graph under a name, with the name of the job that made it where that is told
abbrev pub graph_line : Option (List ℕ) → List ℕ → NamedGraph → GraphLine
graph_line job name graph = record {
  name = name;
  nodes = length graph.graph.nodes;
  arcs = projected_arc_count graph.graph;
  version = graph.version;
  keys = graph.graph.keys;
  job = job;
}

-- what is told of a graph and the name that it stands under
abbrev pub entry_line : List ℕ × NamedGraph → GraphLine
entry_line entry = graph_line None entry.0 entry.1

-- what is told of the graph of a name: nothing where there is none
abbrev pub found_lines : List ℕ → Option NamedGraph → List GraphLine
found_lines name None = []
found_lines name (Some graph) = graph_line None name graph ∷ []

-- what is told of all graphs, or of the one of a name
abbrev pub chosen_lines : Option (List ℕ) → UserLists → List GraphLine
chosen_lines None lists = map entry_line lists.graphs
chosen_lines (Some name) lists = found_lines name (under name lists.graphs)

-- ---- keeping and dropping

-- a graph under the next version
abbrev pub next_graph : PlainProjection → UserLists → NamedGraph
next_graph graph lists = record { version = lists.last_version + 1; graph = graph }

-- the lists with one more graph, under the next version
abbrev pub with_graph : List ℕ → PlainProjection → UserLists → UserLists
with_graph name graph lists =
    record lists { graphs = inserted name (next_graph graph lists) lists.graphs; last_version = lists.last_version + 1 }

-- the lists without the graph of a name; its version isn't given again
abbrev pub without_graph : List ℕ → UserLists → UserLists
without_graph name lists = record lists { graphs = removed name lists.graphs }

-- whether there is a graph of a name
abbrev pub has_graph : List ℕ → UserLists → Bool
has_graph name lists = is_some (under name lists.graphs)

-- why no graph is dropped: there must be one, and there is none
abbrev pub refused_drop : List ℕ → Bool → UserLists → Option Refusal
refused_drop name must lists = if must && not (has_graph name lists) then Some (NoSuchGraph name) else None

-- ---- rows

-- why a key isn't one of keys
abbrev pub unknown_key : List (List ℕ) → List ℕ → Option Refusal
unknown_key keys key = if is_among keys key then None else Some (NoSuchProperty key)

-- why a projection has no rows under a key: a label isn't projected, or there is no such key; the first cause in order
abbrev pub refused_under : List ℕ → Choice → PlainProjection → Option Refusal
refused_under key labels p = first_there (option_map NoSuchLabel (unknown_choice p.labels labels)) (unknown_key p.keys key)

-- why a graph of a name has no rows under a key: it isn't there, or its projection has none
abbrev pub refused_rows : List ℕ → List ℕ → Choice → Option NamedGraph → Option Refusal
refused_rows name key labels None = Some (NoSuchGraph name)
refused_rows name key labels (Some graph) = refused_under key labels graph.graph

-- the row of a node: its id, and its value under a key
abbrev pub row_under : List (List ℕ) → List ℕ → ProjectedNode → ℕ × ℤ
row_under keys key node = (node.id, unwrap_or (under key (zip keys node.values)) missing_value)

-- the rows of the chosen nodes of a projection
abbrev pub rows_under : List ℕ → Choice → PlainProjection → List (ℕ × ℤ)
rows_under key labels p = map (row_under p.keys key) (filter (chooses_node labels) p.nodes)

-- the rows of the chosen nodes of a graph
abbrev pub graph_rows : List ℕ → Choice → Option NamedGraph → List (ℕ × ℤ)
graph_rows key labels None = []
graph_rows key labels (Some graph) = rows_under key labels graph.graph
