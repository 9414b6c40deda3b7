-- Links, by which the relationships that began at a node are found without looking at others.
--   rel_id rel                     the id of a relationship
--   begins_at id rel               whether a relationship begins at a node
--   source_at links id             the node at which a relationship began, where it ever lived
--   before_at links id             the relationship before it that began at the same node
--   latest_at latest node          the last relationship that began at a node
--   latest_below links node n      the last relationship with an id below n that began at a node
--   IsChained links latest         from each node its relationships are reached, from the last one to the first
--   BeginsByLinks rels links       each relationship that lives began where its link says
--   IsLinkedUpTo                   both of these, for so many relationships and so many nodes
use Rattle.std.specs.Prelude.{◌≡◌, ℕ, ◌<◌, ◌==◌, Bool, false, if◌then◌else◌, List, length, Option, Some, None, slice_index_or}
use Rattle.std.proofs.Common.{suc, zero}
use Rattle.graph_model.specs.declared.graph.Rel.{Rel}
use Rattle.store_tables.specs.declared.link.Link.{Link}
use Rattle.store_tables.specs.declared.link.Latest.{Latest}
use Rattle.store_tables.specs.Slots.{slot_at}

-- the id of a relationship
abbrev pub rel_id : Rel → ℕ
rel_id rel = rel.id

-- whether a relationship begins at a node
abbrev pub begins_at : ℕ → Rel → Bool
begins_at id rel = rel.source == id

-- the node at which a relationship began, where it ever lived
abbrev pub source_at : List Link → ℕ → Option ℕ
source_at links id = (slice_index_or links id (record { source = None; before = None })).source

-- the relationship before it that began at the same node
abbrev pub before_at : List Link → ℕ → Option ℕ
before_at links id = (slice_index_or links id (record { source = None; before = None })).before

-- the last relationship that began at a node
abbrev pub latest_at : List Latest → ℕ → Option ℕ
latest_at latest node = (slice_index_or latest node (record { rel = None })).rel

-- whether a source is this node
abbrev pub is_source : ℕ → Option ℕ → Bool
is_source node None = false
is_source node (Some source) = source == node

-- the last relationship with an id below n that began at a node
abbrev pub latest_below : List Link → ℕ → ℕ → Option ℕ
latest_below links node zero = None
latest_below links node (suc n) = if is_source node (source_at links n) then Some n else latest_below links node n

-- from each node its relationships are reached, from the last one to the first
pub record IsChained (links : List Link) (latest : List Latest) : Type 0 where
  pub before : (id node : ℕ) → source_at links id ≡ Some node → before_at links id ≡ latest_below links node id
  pub last : (node : ℕ) → latest_at latest node ≡ latest_below links node (length links)

-- each relationship that lives and has a link began where its link says
abbrev pub BeginsByLinks : List (Option Rel) → List Link → Type 0
BeginsByLinks rels links = (id : ℕ) (rel : Rel) → id < length links → slot_at rels id ≡ Some rel → source_at links id ≡ Some rel.source

-- so many slots and so many nodes are linked
pub record IsLinkedUpTo (rels : List (Option Rel)) (links : List Link) (latest : List Latest) (row nodes : ℕ) : Type 0 where
  pub chained : IsChained links latest
  pub begun : BeginsByLinks rels links
  pub rows : length links ≡ row
  pub nodes_known : length latest ≡ nodes
