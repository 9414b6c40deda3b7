-- Steps that are made on the lists of one user, as steps of the desk's state.
use Rattle.std.proofs.Common.{◌≡◌, ◌≤◌, ℕ, Bool, true, false, List, Option, Some, None, IsTrue, refl, sym, ap, ◌∙◌, subst, arith}
use Rattle.std.specs.Option.{unwrap_or}
use Rattle.gds_causes.specs.Faults.{Rose}
use Rattle.graph_model.specs.declared.graph.PropertyGraph.{PropertyGraph}
use Rattle.graph_model.specs.declared.refusal.Refusal.{Refusal}
use Rattle.graph_model.specs.declared.refusal.Refusal.TheVariants.{Mem, NotAdmin}
use Rattle.graph_model.specs.Lists.{first_there}
use Rattle.graph_making.specs.declared.capture.MakeSpec.{MakeSpec}
use Rattle.graph_making.specs.Making.{PlainCapture}
use Rattle.desk_model.specs.declared.asked.Event.{Event}
use Rattle.desk_model.specs.declared.asked.Event.TheVariants as event
use Rattle.desk_model.specs.Replies.{PlainReply, Refused}
use Rattle.desk_model.specs.State.{Part, State, part_of}
use Rattle.desk_model.specs.Graphs.{refused_drop}
use Rattle.desk_model.specs.Step.{IsPartStep, IsStep, captured_for, commits, is_fault, mark_of, named_by, refusal_of, refused_naming, subject_of}
use Rattle.desk_model.proofs.States.{left_part, step_is}
use Rattle.user_lists.specs.Steps.{Setting, IsBeginStep, IsListStep}
use Rattle.user_lists.specs.Users.{lists_of, OthersStay}
use Rattle.user_lists.proofs.Steps.{IsPlain, step-memory, step-refused}
use Rattle.desk_core.specs.Fields.{DeskFields, KeepsStore, state_of}
use Rattle.desk_core.proofs.GraphSteps.{without-fault}

module _ {K : Type 0} (old new : DeskFields K) (caller : List ℕ) where
  -- who asks the desk
  abbrev pub setting : Setting
  setting = record { caller = caller; graph = old.graph; admin = old.admin }

  of_part : (subject : List ℕ) (asked : Event) (reply : PlainReply) → subject_of caller asked ≡ subject → KeepsStore old new → OthersStay subject old.users new.users → IsPartStep caller asked (part_of (state_of old) subject) reply (record (part_of (state_of old) subject) { lists = lists_of new.users subject }) → IsStep caller asked (state_of old) reply (state_of new)
  of_part subject asked reply is keeps others step =
      step_is (state_of old) (state_of new) caller subject asked reply is keeps.admin others
      (subst (λ (g : PropertyGraph). IsPartStep caller asked (part_of (state_of old) subject) reply (record (part_of (state_of old) subject) { graph = g; lists = lists_of new.users subject })) (sym keeps.graph) step)

  -- an event on the lists of the user whom it names, who may be named, or of the caller
  pub list_step : (subject : List ℕ) (asked : Event) (reply : PlainReply) → subject_of caller asked ≡ subject → refused_naming caller old.admin (named_by asked) ≡ None → KeepsStore old new → OthersStay subject old.users new.users → IsListStep asked (lists_of old.users subject) reply (lists_of new.users subject) → IsStep caller asked (state_of old) reply (state_of new)
  list_step subject asked reply is free keeps others step = of_part subject asked reply is keeps others (step setting free)

  -- the beginning of a job
  pub begin_step : (graph : List ℕ) (name : Option (List ℕ)) (spec : MakeSpec) (captured : PlainCapture) (reply : PlainReply) → captured ≡ captured_for spec old.graph → KeepsStore old new → OthersStay caller old.users new.users → IsBeginStep graph name spec captured (lists_of old.users caller) reply (lists_of new.users caller) → IsStep caller (event.ProjectBegin graph name spec) (state_of old) reply (state_of new)
  begin_step graph name spec captured reply is keeps others step = of_part caller (event.ProjectBegin graph name spec) reply refl keeps others (step setting is)

-- an event that is refused and leaves the part of its subject leaves the desk
still : {K : Type 0} (desk : DeskFields K) (caller user : List ℕ) (asked : Event) (reply : PlainReply) → subject_of caller asked ≡ user → IsPartStep caller asked (part_of (state_of desk) user) reply (part_of (state_of desk) user) → IsStep caller asked (state_of desk) reply (state_of desk)
still desk caller user asked reply is step = step_is (state_of desk) (state_of desk) caller user asked reply is refl (λ other apart. refl) step

-- another user's graphs aren't told to a caller who may not name that user
pub list_denied : {K : Type 0} (desk : DeskFields K) (caller user : List ℕ) (graph : Option (List ℕ)) → refused_naming caller desk.admin (Some user) ≡ Some (NotAdmin user) → IsStep caller (event.List graph (Some user)) (state_of desk) (Refused (NotAdmin user)) (state_of desk)
list_denied desk caller user graph refused =
    still desk caller user (event.List graph (Some user)) (Refused (NotAdmin user)) refl
    (step-refused caller (event.List graph (Some user)) (part_of (state_of desk) user) (part_of (state_of desk) user) (NotAdmin user) (subst IsPlain (sym refused) refl) refused refl)

-- and aren't dropped by one
pub drop_denied : {K : Type 0} (desk : DeskFields K) (caller user graph : List ℕ) (must : Bool) → refused_naming caller desk.admin (Some user) ≡ Some (NotAdmin user) → IsStep caller (event.Drop graph must (Some user)) (state_of desk) (Refused (NotAdmin user)) (state_of desk)
drop_denied desk caller user graph must refused =
    let first = ap (λ (why : Option Refusal). first_there why (refused_drop graph must (lists_of desk.users user))) refused in
    still desk caller user (event.Drop graph must (Some user)) (Refused (NotAdmin user)) refl
    (step-refused caller (event.Drop graph must (Some user)) (part_of (state_of desk) user) (part_of (state_of desk) user) (NotAdmin user) (subst IsPlain (sym first) refl) first refl)

-- no memory was to be had for what a job captures
pub begin_memory : {K : Type 0} (desk : DeskFields K) (caller graph : List ℕ) (name : Option (List ℕ)) (spec : MakeSpec) → IsStep caller (event.ProjectBegin graph name spec) (state_of desk) (Refused Mem) (state_of desk)
begin_memory desk caller graph name spec =
    still desk caller caller (event.ProjectBegin graph name spec) (Refused Mem) refl (step-memory caller (event.ProjectBegin graph name spec) (part_of (state_of desk) caller) refl)

-- no fault is answered where nothing is handed to the keeper, whose count stands
pub calm_fault : (caller : List ℕ) (asked : Event) (old new : State) (reply : PlainReply) (before after : ℕ) → IsStep caller asked old reply new → commits asked (part_of old (subject_of caller asked)) ≡ false → IsTrue (is_fault (mark_of reply)) → Rose before after
calm_fault caller asked old new reply before after is none = without-fault caller asked old new reply (Rose before after) is none
