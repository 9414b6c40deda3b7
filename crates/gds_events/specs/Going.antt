-- A desk, and the job on it that this program began last and hasn't ended.
--   IsSimple event         an event that begins and ends no job, well formed
--   IsGoingOn desk last    the lists of the desk are valid, and the job that was begun last goes on
--   every_node key         every node, under one projected label, with a key
use Rattle.std.specs.Prelude.{◌≡◌, ℕ, List, [], ◌∷◌, codes, Option, Some, None}
use Rattle.graph_making.specs.declared.capture.MakeSpec.{MakeSpec}
use Rattle.graph_making.specs.declared.capture.MakeSpec.TheVariants.{Native}
use Rattle.graph_making.specs.Making.{plain_capture}
use Rattle.desk_model.specs.declared.asked.Event.{Event}
use Rattle.desk_model.specs.declared.asked.Event.TheVariants as event
use Rattle.desk_model.specs.declared.asked.Event.TheVariants.{Change, StoreRows, ProjectBegin, ProjectEnd, Abandon, Terminate, Exists, GraphRows, Jobs}
use Rattle.desk_model.specs.Step.{IsWellFormed}
use Rattle.desk_model.specs.Valid.{IsValidState}
use Rattle.desk_model.specs.Going.{IsGoingJob}
use Rattle.desk_core.specs.Fields.{DeskFields, state_of}
use Rattle.gds_events.specs.declared.session.Begun.{Begun}

-- an event that begins and ends no job, well formed
abbrev pub IsSimple : Event → Type 0
IsSimple (Change import change) = IsWellFormed (Change import change)
IsSimple (StoreRows key labels) = Unit {0}
IsSimple (ProjectBegin graph name spec) = ⊥
IsSimple (ProjectEnd number built) = ⊥
IsSimple (Abandon number) = ⊥
IsSimple (Terminate name) = Unit {0}
IsSimple (Exists graph) = Unit {0}
IsSimple (event.List graph of) = Unit {0}
IsSimple (event.Drop graph must of) = Unit {0}
IsSimple (GraphRows graph key labels) = Unit {0}
IsSimple Jobs = Unit {0}

-- a job that was begun goes on
abbrev pub GoesOn : {K : Type 0} → DeskFields K → Option Begun → Type 0
GoesOn desk None = Unit {0}
GoesOn desk (Some begun) = IsGoingJob begun.job (plain_capture begun.from) begun.spec ((state_of desk).lists begun.user)

-- the lists of a desk are valid, and the job that was begun last goes on
pub record IsGoingOn {K : Type 0} (desk : DeskFields K) (last : Option Begun) : Type 0 where
  pub valid : IsValidState (state_of desk)
  pub goes_on : GoesOn desk last

-- what contracts see of a session: its desk, and the job that was begun last
pub record SessionFields (K : Type 0) : Type 0 where
  pub desk : DeskFields K
  pub last : Option Begun

-- every node, under one projected label, with a key
abbrev pub every_node : List ℕ → MakeSpec
every_node key = Native (record { nodes = record { label = codes "A"; store = None; props = record { key = key; store = key; default = None } ∷ [] } ∷ []; rels = [] })
