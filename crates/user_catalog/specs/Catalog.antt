-- Named graphs of a user: what is kept, why a change is refused, and what it leaves.
--   NamedGraphs                       the graphs by ascending name, and the last version that was given
--   no_graphs                         nothing was ever kept
--   is_named name entry               whether an entry stands under a name
--   is_behind name entry              whether an entry stands behind a name
--   inserted name entry entries       entries with one more, put where its name belongs
--   removed name entries              entries without the one under a name
--   mapped f entries                  entries with other values under their names
--   widened name key column entries   entries with one more column in the graph under a name
--   refused_graph name entries last   why no graph can be kept under a name among these, with this last version
--   refused_insert c name             why no graph can be kept under a name
--   after_insert c name graph         what keeping a graph leaves: it stands under the next version
--   after_remove c name               what dropping a graph leaves: the last version stays
--   refused_column c name v key       why no column can be added to a graph of a version
--   after_column c name key column    what adding a column leaves: the graph keeps its version
--   IsCatalog c                       names ascend, versions are distinct and were given, and there are no more graphs than allowed
use Rattle.std.specs.Prelude.{◌≢◌, ℕ, ◌+◌, ◌≤◌, ◌==◌, nat_lt, Bool, if◌then◌else◌, List, [], ◌∷◌, length, Option, Some, None}
use Rattle.std.specs.List.{AllByRecursion}
use Rattle.std.specs.Str.{bytes_eq}
use Rattle.std.specs.Ordering.{nat_cmp, is_lt}
use Rattle.std.specs.Cmp.Lexicographic.{slice_cmp}
use Rattle.graph_model.specs.declared.refusal.Refusal.{Refusal}
use Rattle.graph_model.specs.declared.refusal.Refusal.TheVariants.{GraphExists, TooManyGraphs, CounterSpent, GraphGone, PropertyExists}
use Rattle.graph_model.specs.declared.refusal.Counter.TheVariants.{Versions}
use Rattle.graph_model.specs.declared.graph.Column.{Column}
use Rattle.graph_model.specs.Lists.{Pairwise, first_there}
use Rattle.graph_model.specs.Names.{IsBefore}
use Rattle.graph_model.specs.Projection.{is_among, under}
use Rattle.csr_columns.specs.declared.parts.Parts.{Parts}
use Rattle.csr_columns.specs.Rows.{names_of}
use Rattle.csr_columns.specs.Plain.{parts_with_column}
use Rattle.user_catalog.specs.declared.entry.Entry.{Entry}

-- the most graphs of a user
abbrev pub most_graphs : ℕ
most_graphs = 64

-- the greatest version
abbrev pub greatest_version : ℕ
greatest_version = 4294967295

-- the graphs by ascending name, and the last version that was given
pub record NamedGraphs : Type 0 where
  pub entries : List (List ℕ × Entry)
  pub last : ℕ

-- the graphs in these entries, and the last version
abbrev pub named_graphs : List (List ℕ × Entry) → ℕ → NamedGraphs
named_graphs entries last = record { entries = entries; last = last }

-- nothing was ever kept
abbrev pub no_graphs : NamedGraphs
no_graphs = record { entries = []; last = 0 }

-- ---- entries

-- whether an entry stands under a name
abbrev pub is_named : {A : Type 0} → List ℕ → List ℕ × A → Bool
is_named name entry = bytes_eq entry.0 name

-- whether an entry stands behind a name
abbrev pub is_behind : {A : Type 0} → List ℕ → List ℕ × A → Bool
is_behind name entry = is_lt (slice_cmp nat_cmp name entry.0)

-- entries with one more, put before the first that stands behind its name
abbrev pub inserted : {A : Type 0} → List ℕ → A → List (List ℕ × A) → List (List ℕ × A)
inserted name entry [] = (name, entry) ∷ []
inserted name entry (first ∷ rest) = if is_behind name first then (name, entry) ∷ first ∷ rest else first ∷ inserted name entry rest

-- entries without the one under a name
abbrev pub removed : {A : Type 0} → List ℕ → List (List ℕ × A) → List (List ℕ × A)
removed name [] = []
removed name (first ∷ rest) = if is_named name first then rest else first ∷ removed name rest

-- entries with other values under their names
abbrev pub mapped : {A B : Type 0} → (A → B) → List (List ℕ × A) → List (List ℕ × B)
mapped f [] = []
mapped f (entry ∷ entries) = (entry.0, f entry.1) ∷ mapped f entries

-- an entry with one more column in its graph, under its old version
abbrev pub wider : List ℕ → Column → Entry → Entry
wider key column entry = record entry { graph = parts_with_column entry.graph key column }

-- entries with one more column in the graph under a name
abbrev pub widened : List ℕ → List ℕ → Column → List (List ℕ × Entry) → List (List ℕ × Entry)
widened name key column [] = []
widened name key column (first ∷ rest) = if is_named name first then (first.0, wider key column first.1) ∷ rest else first ∷ widened name key column rest

-- ---- keeping a graph

-- why a name is free for no graph: there is one
abbrev pub name_taken : {A : Type 0} → List ℕ → Option A → Option Refusal
name_taken name None = None
name_taken name (Some entry) = Some (GraphExists name)

-- why there is no room for a graph: there are as many as a user may have
abbrev pub graphs_spent : ℕ → Option Refusal
graphs_spent count = if nat_lt count most_graphs then None else Some (TooManyGraphs most_graphs)

-- why there is no version for a graph: the greatest one was given
abbrev pub versions_spent : ℕ → Option Refusal
versions_spent last = if nat_lt last greatest_version then None else Some (CounterSpent Versions greatest_version)

-- why no graph can be kept under a name among these, with this last version: the first cause in order
abbrev pub refused_graph : {A : Type 0} → List ℕ → List (List ℕ × A) → ℕ → Option Refusal
refused_graph name entries last = first_there (name_taken name (under name entries)) (first_there (graphs_spent (length entries)) (versions_spent last))

-- why no graph can be kept under a name: the first cause in order
abbrev pub refused_insert : NamedGraphs → List ℕ → Option Refusal
refused_insert c name = refused_graph name c.entries c.last

-- a graph under the next version
abbrev pub next_entry : NamedGraphs → Parts → Entry
next_entry c graph = record { version = c.last + 1; graph = graph }

-- what keeping a graph leaves
abbrev pub after_insert : NamedGraphs → List ℕ → Parts → NamedGraphs
after_insert c name graph = record { entries = inserted name (next_entry c graph) c.entries; last = c.last + 1 }

-- ---- dropping a graph

-- what dropping a graph leaves: its version isn't given again
abbrev pub after_remove : NamedGraphs → List ℕ → NamedGraphs
after_remove c name = record c { entries = removed name c.entries }

-- ---- adding a column

-- why no column can be added to an entry: it has another version, or its graph has the key
abbrev pub refused_wider : List ℕ → ℕ → List ℕ → Entry → Option Refusal
refused_wider name version key entry = if entry.version == version then (if is_among (names_of entry.graph.columns) key then Some (PropertyExists key) else None) else Some (GraphGone name version entry.version)

-- why no column can be added to what stands under a name; version 0 stands for no graph
abbrev pub refused_found : List ℕ → ℕ → List ℕ → Option Entry → Option Refusal
refused_found name version key None = Some (GraphGone name version 0)
refused_found name version key (Some entry) = refused_wider name version key entry

-- why no column can be added to the graph of a version
abbrev pub refused_column : NamedGraphs → List ℕ → ℕ → List ℕ → Option Refusal
refused_column c name version key = refused_found name version key (under name c.entries)

-- what adding a column leaves: the graph keeps its version
abbrev pub after_column : NamedGraphs → List ℕ → List ℕ → Column → NamedGraphs
after_column c name key column = record c { entries = widened name key column c.entries }

-- ---- what holds at every moment

-- the name of an entry comes before another's
abbrev pub ComesBefore : {A : Type 0} → List ℕ × A → List ℕ × A → Type 0
ComesBefore a b = IsBefore a.0 b.0

-- two entries have different versions
abbrev pub HasOtherVersion : List ℕ × Entry → List ℕ × Entry → Type 0
HasOtherVersion a b = a.1.version ≢ b.1.version

-- the version of an entry was given: it is from 1 to the last one
abbrev pub WasGiven : ℕ → List ℕ × Entry → Type 0
WasGiven last entry = (1 ≤ entry.1.version) × (entry.1.version ≤ last)

-- names ascend, versions are distinct and were given, and there are no more graphs than a user may have
pub record IsCatalog (c : NamedGraphs) : Type 0 where
  pub ascending : Pairwise ComesBefore c.entries
  pub distinct : Pairwise HasOtherVersion c.entries
  pub given : AllByRecursion (WasGiven c.last) c.entries
  pub few : length c.entries ≤ most_graphs
