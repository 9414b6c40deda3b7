-- The table of steps, evaluated on a small store.
use Rattle.std.specs.Prelude.{ℕ, Bool, if◌then◌else◌, pos, true, false, [], ◌∷◌, ◌++◌, codes, decimal, List, Option, Some, None}
use Rattle.std.specs.Str.{bytes_eq}
use Rattle.graph_model.specs.declared.graph.Choice.TheVariants.{All}
use Rattle.graph_model.specs.declared.graph.Orientation.TheVariants.{Natural}
use Rattle.graph_model.specs.declared.change.Change.TheVariants as change
use Rattle.graph_model.specs.declared.change.ChangeReply.TheVariants.{Created}
use Rattle.graph_model.specs.SmallStore.{empty_graph, make_small_store, small_store}
use Rattle.projection_spec.specs.declared.entries.NodeEntry.{NodeEntry}
use Rattle.projection_spec.specs.declared.entries.Rule.TheVariants.{Keep}
use Rattle.projection_spec.specs.WorkedRows.{key_w, type_r}
use Rattle.graph_making.specs.declared.capture.MakeSpec.{MakeSpec}
use Rattle.graph_making.specs.declared.capture.MakeSpec.TheVariants.{Native}
use Rattle.graph_making.specs.Making.{BuiltGraph}
use Rattle.desk_model.specs.declared.asked.Event.{Event}
use Rattle.desk_model.specs.declared.asked.Event.TheVariants as event
use Rattle.desk_model.specs.declared.asked.Event.TheVariants.{Change, StoreRows, ProjectBegin, ProjectEnd, Terminate}
use Rattle.desk_model.specs.declared.lines.GraphLine.{GraphLine}
use Rattle.desk_model.specs.State.{NamedGraph, Part, State, UserLists, no_lists, part_of}
use Rattle.desk_model.specs.Step.{Outcome, Answered, Plain, part_step, step}

-- the user of these rows, another, and an administrator
abbrev pub alice : List ℕ
alice = codes "alice"

abbrev pub bob : List ℕ
bob = codes "bob"

abbrev pub root : List ℕ
root = codes "root"

-- what an event of the user comes to that no mark stands on
abbrev pub done : Event → Part → Outcome
done asked part = part_step Plain alice asked part

-- a new user of an empty store, without an administrator
abbrev pub nothing_kept : Part
nothing_kept = record { graph = empty_graph; admin = None; lists = no_lists }

-- the small store is made under an import id
abbrev pub import_small_store : Event
import_small_store = Change (Some (codes "i1")) make_small_store

-- the lists of a user who has imported the small store
abbrev pub imported_lists : UserLists
imported_lists = record no_lists { imports = (codes "i1", Created 0 6 0 6) ∷ [] }

-- the part of that user
abbrev pub imported : Part
imported = record { graph = small_store; admin = None; lists = imported_lists }

-- the key d of two nodes is set
abbrev pub set_two : Event
set_two = Change None (change.SetNodes (codes "d") ((2, pos 6) ∷ (0, pos 5) ∷ []))

-- the values under the key d of all nodes
abbrev pub all_rows : Event
all_rows = StoreRows (codes "d") All

-- ---- named graphs and jobs

-- every node, under one projected label, with a key that no node stores
abbrev every_node : NodeEntry
every_node = record {
  label = codes "A";
  store = None;
  props = record { key = codes "c"; store = codes "c"; default = Some (pos 7) } ∷ [];
}

-- every node, and the relationships of one type with their key
abbrev pub every_element : MakeSpec
every_element = Native (record { nodes = every_node ∷ []; rels = type_r Natural false (key_w (codes "w") Keep ∷ []) ∷ [] })

-- the part of a user of the small store who has kept nothing
abbrev pub small_part : Part
small_part = record { graph = small_store; admin = None; lists = no_lists }

-- a job begins that makes a graph named g
abbrev pub begin_g : Event
begin_g = ProjectBegin (codes "g") None every_element

-- the part of the user whose job has begun
abbrev pub making_g : Part
making_g = (done begin_g small_part).part

-- the same where all nodes were deleted since
abbrev pub emptied : Part
emptied = record making_g { graph = empty_graph }

-- the job of a number ends, with this graph
abbrev pub end_job : ℕ → BuiltGraph → Event
end_job number built = ProjectEnd number built

-- the job is asked to end
abbrev pub terminate : Event
terminate = Terminate (codes "job-1")

-- the part of the user whose job was asked to end
abbrev pub asked_g : Part
asked_g = (done terminate making_g).part

-- the part of the user whose graph was made
abbrev pub made_g : BuiltGraph → Part
made_g built = (done (end_job 1 built) making_g).part

-- what is told of the graph in a version, by a job where that is told
abbrev pub line_g : ℕ → Option ℕ → GraphLine
line_g version None = record { name = codes "g"; nodes = 6; arcs = 6; version = version; keys = codes "c" ∷ []; job = None }
line_g version (Some number) = record { name = codes "g"; nodes = 6; arcs = 6; version = version; keys = codes "c" ∷ []; job = Some (codes "job-" ++ decimal number) }

-- the graph is dropped
abbrev pub drop_g : Event
drop_g = event.Drop (codes "g") true None

-- the part of the user who dropped the graph, and began to make it anew
abbrev pub making_again : BuiltGraph → Part
making_again built = (done begin_g (done drop_g (made_g built)).part).part

-- ---- an administrator

-- a state with an administrator, in which one user has the graph g
abbrev pub governed : BuiltGraph → State
governed built = record {
  graph = small_store;
  admin = Some root;
  lists = λ user. if bytes_eq user alice then (made_g built).lists else no_lists;
}

-- what an event of a user comes to in that state
abbrev pub governed_by : List ℕ → Event → BuiltGraph → Answered
governed_by caller asked built = step Plain caller asked (governed built)

-- the user's graphs are listed, with the user named
abbrev pub list_alice : Event
list_alice = event.List None (Some alice)

-- the user's graph is dropped, with the user named
abbrev pub drop_alice : Event
drop_alice = event.Drop (codes "g") true (Some alice)
