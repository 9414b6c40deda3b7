-- Steps of the machine that are made on the lists of one user.
--   Setting                            who asks, and of which graph and administrator
--   IsListStep event old reply new     a step, in whatever setting, where the caller may name whom the event names
--   IsBeginStep ...                    a job begins, where its capture is what is captured for it
--   IsEventStep event old reply new    the same of an event on lists
--   IsReadyOn event lists              what must hold of an event on lists
use Rattle.std.specs.Prelude.{◌≡◌, ℕ, Bool, true, false, List, Option, None, IsSome, Result, Ok, Err}
use Rattle.graph_model.specs.declared.graph.PropertyGraph.{PropertyGraph}
use Rattle.graph_making.specs.declared.capture.MakeSpec.{MakeSpec}
use Rattle.graph_making.specs.Making.{PlainCapture, plain_capture}
use Rattle.desk_model.specs.declared.asked.Event.{Event}
use Rattle.desk_model.specs.declared.asked.Event.TheVariants as event
use Rattle.graph_model.specs.declared.memory.Mem.{Mem as TheMem}
use Rattle.graph_model.specs.declared.refusal.Refusal.TheVariants.{Mem}
use Rattle.desk_model.specs.declared.lines.GraphLine.{GraphLine}
use Rattle.desk_model.specs.Replies.{PlainReply, Graphs, Refused}
use Rattle.desk_model.specs.State.{UserLists, Part}
use Rattle.desk_model.specs.Jobs.{job_of}
use Rattle.desk_model.specs.Step.{IsGivenName, IsPartStep, IsSomeMaking, captured_for, named_by, refused_naming}
use Rattle.user_lists.specs.declared.event.ListEvent.{ListEvent}
use Rattle.user_lists.specs.declared.event.ListEvent.TheVariants as list

-- who asks, and of which graph and administrator
pub record Setting : Type 0 where
  pub caller : List ℕ
  pub graph : PropertyGraph
  pub admin : Option (List ℕ)

-- the part of a user with these lists
abbrev pub part_with : Setting → UserLists → Part
part_with s lists = record { graph = s.graph; admin = s.admin; lists = lists }

-- in whatever setting, one list of lists, a reply and another are a step, where the caller may name whom the event names
abbrev pub IsListStep : Event → UserLists → PlainReply → UserLists → Type 0
IsListStep asked old reply new =
    (s : Setting) → refused_naming s.caller s.admin (named_by asked) ≡ None → IsPartStep s.caller asked (part_with s old) reply (part_with s new)

-- the same of the beginning of a job, where its capture is what is captured for it
abbrev pub IsBeginStep : List ℕ → Option (List ℕ) → MakeSpec → PlainCapture → UserLists → PlainReply → UserLists → Type 0
IsBeginStep graph name spec captured old reply new =
    (s : Setting) → captured ≡ captured_for spec s.graph → IsPartStep s.caller (event.ProjectBegin graph name spec) (part_with s old) reply (part_with s new)

-- the same of an event on lists, whoever is named
abbrev pub IsEventStep : ListEvent → UserLists → PlainReply → UserLists → Type 0
IsEventStep (list.Begin graph name captured spec) old reply new = IsBeginStep graph name spec (plain_capture captured) old reply new
IsEventStep (list.End number built) old reply new = IsListStep (event.ProjectEnd number built) old reply new
IsEventStep (list.Abandon number) old reply new = IsListStep (event.Abandon number) old reply new
IsEventStep (list.Terminate name) old reply new = IsListStep (event.Terminate name) old reply new
IsEventStep (list.Exists graph) old reply new = IsListStep (event.Exists graph) old reply new
IsEventStep (list.List graph) old reply new = (of : Option (List ℕ)) → IsListStep (event.List graph of) old reply new
IsEventStep (list.Drop graph must) old reply new = (of : Option (List ℕ)) → IsListStep (event.Drop graph must of) old reply new
IsEventStep list.Jobs old reply new = IsListStep event.Jobs old reply new

-- what must hold of an event on lists: a name that is given to a job doesn't look like one that the machine gives, and a job
-- that ends is there, and makes what was built
abbrev pub IsReadyOn : ListEvent → UserLists → Type 0
IsReadyOn (list.Begin graph name captured spec) lists = IsGivenName name
IsReadyOn (list.End number built) lists = IsSomeMaking built.from built.spec (job_of number lists)
IsReadyOn (list.Abandon number) lists = IsSome (job_of number lists)
IsReadyOn (list.Terminate name) lists = Unit {0}
IsReadyOn (list.Exists graph) lists = Unit {0}
IsReadyOn (list.List graph) lists = Unit {0}
IsReadyOn (list.Drop graph must) lists = Unit {0}
IsReadyOn list.Jobs lists = Unit {0}

-- whether an event on lists begins a job
abbrev pub begins_job : ListEvent → Bool
begins_job (list.Begin graph name captured spec) = true
begins_job (list.End number built) = false
begins_job (list.Abandon number) = false
begins_job (list.Terminate name) = false
begins_job (list.Exists graph) = false
begins_job (list.List graph) = false
begins_job (list.Drop graph must) = false
begins_job list.Jobs = false

-- what is answered with lines of graphs, where there is memory for them
abbrev pub lines_reply : Result (List GraphLine) TheMem → PlainReply
lines_reply (Ok lines) = Graphs lines
lines_reply (Err none) = Refused Mem
