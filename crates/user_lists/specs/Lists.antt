-- Named graphs in columns, as the machine's state has them.
--   named entry           a graph with its version
--   named_graphs entries  graphs under their names
--   shown ...             the lists of a user, by what is kept of them
use Rattle.std.specs.Prelude.{ℕ, List}
use Rattle.csr_columns.specs.Plain.{plain}
use Rattle.user_catalog.specs.declared.entry.Entry.{Entry}
use Rattle.graph_model.specs.declared.change.ChangeReply.{ChangeReply}
use Rattle.user_catalog.specs.Catalog.{NamedGraphs, mapped}
use Rattle.desk_model.specs.State.{NamedGraph, Job, UserLists}

-- a graph in columns, with its version
abbrev pub named : Entry → NamedGraph
named entry = record { version = entry.version; graph = plain entry.graph }

-- graphs under their names
abbrev pub named_graphs : List (List ℕ × Entry) → List (List ℕ × NamedGraph)
named_graphs entries = mapped named entries

-- the lists of a user, by the catalog of graphs, the jobs, the answers of imports and the number of the last job
abbrev pub shown : NamedGraphs → List Job → List (List ℕ × ChangeReply) → ℕ → UserLists
shown catalog jobs imports last_job = record {
  graphs = named_graphs catalog.entries;
  jobs = jobs;
  imports = imports;
  last_job = last_job;
  last_version = catalog.last;
}
