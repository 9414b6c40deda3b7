-- Laws of named graphs.
--   CatalogChange                a call that changes named graphs
--   catalog_after c change       what a call leaves; a refused one leaves all as it was
--   versions_given c changes     the versions that calls give, one after another
use Rattle.std.specs.Prelude.{◌≡◌, ◌≢◌, ℕ, ◌+◌, ◌<◌, List, [], ◌∷◌, ◌++◌, Option, Some, None}
use Rattle.std.specs.List.{AllByRecursion}
use Rattle.graph_model.specs.declared.refusal.Refusal.{Refusal}
use Rattle.graph_model.specs.declared.graph.Column.{Column}
use Rattle.graph_model.specs.Lists.{Pairwise}
use Rattle.graph_model.specs.Projection.{under}
use Rattle.csr_columns.specs.declared.parts.Parts.{Parts}
use Rattle.user_catalog.specs.declared.entry.Entry.{Entry}
use Rattle.user_catalog.specs.Catalog.{NamedGraphs, IsCatalog, next_entry, wider, refused_insert, after_insert, after_remove, refused_column, after_column}

-- a call that changes named graphs: a graph is kept under a name, dropped, or gets a column
pub data CatalogChange : Type 0 where
  InsertGraph : List ℕ → Parts → CatalogChange
  RemoveGraph : List ℕ → CatalogChange
  AddColumn : List ℕ → ℕ → List ℕ → Column → CatalogChange

-- what a call leaves that may be refused
abbrev pub unless_refused : Option Refusal → NamedGraphs → NamedGraphs → NamedGraphs
unless_refused None before after = after
unless_refused (Some why) before after = before

-- what a call leaves; a refused one leaves all as it was
abbrev pub catalog_after : NamedGraphs → CatalogChange → NamedGraphs
catalog_after c (InsertGraph name graph) = unless_refused (refused_insert c name) c (after_insert c name graph)
catalog_after c (RemoveGraph name) = after_remove c name
catalog_after c (AddColumn name version key column) = unless_refused (refused_column c name version key) c (after_column c name key column)

-- the version that a call gives that may be refused
abbrev pub given_unless : Option Refusal → ℕ → List ℕ
given_unless None version = version ∷ []
given_unless (Some why) version = []

-- the version that a call gives, where it gives one
abbrev pub version_given : NamedGraphs → CatalogChange → List ℕ
version_given c (InsertGraph name graph) = given_unless (refused_insert c name) (c.last + 1)
version_given c (RemoveGraph name) = []
version_given c (AddColumn name version key column) = []

-- the versions that calls give, one after another
abbrev pub versions_given : NamedGraphs → List CatalogChange → List ℕ
versions_given c [] = []
versions_given c (change ∷ changes) = version_given c change ++ versions_given (catalog_after c change) changes

-- a call keeps what holds of named graphs
abbrev pub ChangesKeepCatalog : Type 0
ChangesKeepCatalog = (c : NamedGraphs) (change : CatalogChange) → IsCatalog c → IsCatalog (catalog_after c change)

-- the next version is greater than that of each graph
abbrev pub NextVersionIsNew : Type 0
NextVersionIsNew = (c : NamedGraphs) → IsCatalog c → AllByRecursion (λ entry. entry.1.version < c.last + 1) c.entries

-- whatever is called, each version that is given is greater than the last one before, and than each given since
abbrev pub VersionsAscend : Type 0
VersionsAscend = (c : NamedGraphs) (changes : List CatalogChange) →
    AllByRecursion (λ version. c.last < version) (versions_given c changes) × Pairwise ◌<◌ (versions_given c changes)

-- a graph that is kept under a free name is found there, under the next version
abbrev pub InsertedIsFound : Type 0
InsertedIsFound = (c : NamedGraphs) (name : List ℕ) (graph : Parts) → under name c.entries ≡ None →
    under name (after_insert c name graph).entries ≡ Some (next_entry c graph)

-- nothing is found under the name of a graph that is dropped
abbrev pub RemovedIsGone : Type 0
RemovedIsGone = (c : NamedGraphs) (name : List ℕ) → IsCatalog c → under name (after_remove c name).entries ≡ None

-- a graph that gets a column is found with it, under its old version
abbrev pub WidenedIsFound : Type 0
WidenedIsFound = (c : NamedGraphs) (name key : List ℕ) (column : Column) (entry : Entry) → under name c.entries ≡ Some entry →
    under name (after_column c name key column).entries ≡ Some (wider key column entry)

-- what is found under every other name stays
pub record OtherNamesStay (c : NamedGraphs) (name other : List ℕ) : Type 0 where
  pub insert : (graph : Parts) → under other (after_insert c name graph).entries ≡ under other c.entries
  pub remove : under other (after_remove c name).entries ≡ under other c.entries
  pub column : (key : List ℕ) (column : Column) → under other (after_column c name key column).entries ≡ under other c.entries

-- a call changes its own name alone
abbrev pub OthersStay : Type 0
OthersStay = (c : NamedGraphs) (name other : List ℕ) → other ≢ name → OtherNamesStay c name other
