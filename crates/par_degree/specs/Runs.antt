-- A run that finds the degrees of a view, and what it keeps.
--   DegreeState       a view, and how many of its nodes have their degrees
--   advanced run      a run after one more step
--   turned_at run     what the step to this state answers
--   left run          how many nodes are left
use Rattle.std.specs.Prelude.{◌≡◌, ℕ, ℤ, ◌+◌, ◌-◌, ◌≤◌, min, nat_lt, if◌then◌else◌, List, length, take, None}
use Rattle.gds_causes.specs.declared.gate.Turned.{Turned}
use Rattle.gds_causes.specs.declared.gate.Turned.TheVariants.{More, Done}
use Rattle.graph_model.specs.Degrees.{degrees, weight_refusal}
use Rattle.csr_columns.specs.ViewParts.{ViewColumns, plain_view_of}

-- a view, and how many of its nodes, from the first on, have their degrees
pub record DegreeState : Type 0 where
  pub view : ViewColumns
  pub ready : ℕ

-- how many nodes a step treats
abbrev pub nodes_a_step : ℕ
nodes_a_step = 65536

-- a run after one more step
abbrev pub advanced : DegreeState → DegreeState
advanced run = record { view = run.view; ready = min (run.ready + nodes_a_step) (length run.view.ids) }

-- what the step to this state answers: whether nodes are left
abbrev pub turned_at : DegreeState → Turned
turned_at run = if nat_lt run.ready (length run.view.ids) then More else Done

-- how many nodes are left
abbrev pub left : DegreeState → ℕ
left run = length run.view.ids - run.ready

-- what a run keeps: no weight of the view is refused, and there is a value for each node, of which the first are degrees
pub record IsRun (view : ViewColumns) (values : List ℤ) (ready : ℕ) : Type 0 where
  pub taken : weight_refusal (plain_view_of view) ≡ None
  pub long : length values ≡ length view.ids
  pub within : ready ≤ length view.ids
  pub counted : take ready values ≡ take ready (degrees (plain_view_of view))
