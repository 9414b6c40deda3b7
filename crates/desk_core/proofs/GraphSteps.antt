-- Steps that read named graphs, and steps that hand nothing to the keeper.
use Rattle.std.proofs.Common.{◌≡◌, ℕ, Bool, true, false, cond, List, [], ◌∷◌, Option, Some, None, Result, Ok, Err, IfOk, IfErr, OnOk, IsTrue, refl, sym, ap, ◌∙◌, subst}
use Rattle.std.specs.Option.{option_map}
use Rattle.std.proofs.lemmas.Bool.{true≢false}
use Rattle.graph_model.specs.declared.graph.Choice.{Choice}
use Rattle.graph_model.specs.declared.graph.Column.{Column}
use Rattle.graph_model.specs.declared.refusal.Refusal.{Refusal}
use Rattle.graph_model.specs.declared.refusal.Refusal.TheVariants.{NoSuchLabel, NoSuchProperty, NoSuchGraph}
use Rattle.graph_model.specs.Projection.{PlainProjection, is_among, under}
use Rattle.graph_model.specs.Refusals.{UnlessMem}
use Rattle.graph_model.specs.View.{unknown_choice}
use Rattle.desk_model.specs.declared.asked.Event.{Event}
use Rattle.desk_model.specs.declared.asked.Event.TheVariants.{GraphRows}
use Rattle.desk_model.specs.Replies.{PlainReply, Rows, rows_of}
use Rattle.desk_model.specs.State.{NamedGraph, Part, State, part_of}
use Rattle.desk_model.specs.Graphs.{refused_rows, refused_under, unknown_key, graph_rows, rows_under}
use Rattle.desk_model.specs.Step.{Mark, Plain, OutOfMemory, Fault, IsPartStep, IsStep, MayStand, commits, is_fault, mark_of, subject_of}
use Rattle.desk_model.proofs.States.{step_is}
use Rattle.desk_core.specs.Answered.{told_reply}
use Rattle.user_lists.proofs.Steps.{IsPlain, first-plain, plain-if, step-done, step-unless}

-- no fault stands on an event that hands nothing to the keeper
no_fault : (mark : Mark) (caller : List ℕ) (asked : Event) (part : Part) → MayStand mark caller asked part → commits asked part ≡ false → IsTrue (is_fault mark) → ⊥
no_fault Plain caller asked part may none fault = true≢false (sym fault)
no_fault OutOfMemory caller asked part may none fault = true≢false (sym fault)
no_fault Fault caller asked part may none fault = true≢false (sym may.0 ∙ none)

pub without-fault : (caller : List ℕ) (asked : Event) (old new : State) (reply : PlainReply) (A : Type 0) → IsStep caller asked old reply new → commits asked (part_of old (subject_of caller asked)) ≡ false → IsTrue (is_fault (mark_of reply)) → A
without-fault caller asked old new reply A is none fault = absurd (no_fault (mark_of reply) caller asked (part_of old (subject_of caller asked)) is.mark none fault)

-- a step on the part of a user that leaves it, and all else, is a step of the state
pub still-step : (s : State) (caller : List ℕ) (asked : Event) (reply : PlainReply) → subject_of caller asked ≡ caller → IsPartStep caller asked (part_of s caller) reply (part_of s caller) → IsStep caller asked s reply s
still-step s caller asked reply own is = step_is s s caller caller asked reply own refl (λ other apart. refl) is

-- why a graph has no rows shows no mark
label-plain : (label : Option (List ℕ)) → IsPlain (option_map NoSuchLabel label)
label-plain None = tt
label-plain (Some label) = refl

rows-plain : (name key : List ℕ) (labels : Choice) (found : Option NamedGraph) → IsPlain (refused_rows name key labels found)
rows-plain name key labels None = refl
rows-plain name key labels (Some graph) =
    first-plain (option_map NoSuchLabel (unknown_choice graph.graph.labels labels)) (unknown_key graph.graph.keys key)
    (label-plain (unknown_choice graph.graph.labels labels)) (plain-if (is_among graph.graph.keys key) (NoSuchProperty key) refl)

-- rows of a graph are read, or refused
pub rows-step : (caller : List ℕ) (part : Part) (name key : List ℕ) (labels : Choice) (graph : NamedGraph) (made : Result Column Refusal) → under name part.lists.graphs ≡ Some graph → IfOk made (λ column. rows_of column ≡ rows_under key labels graph.graph) → OnOk made (refused_under key labels graph.graph ≡ None) → IfErr made (λ why. UnlessMem why (refused_under key labels graph.graph ≡ Some why)) → IsPartStep caller (GraphRows name key labels) part (told_reply made) part
rows-step caller part name key labels graph (Ok column) there is allowed refused =
    step-done caller (GraphRows name key labels) part part (Rows (rows_of column)) (ap (refused_rows name key labels) there ∙ allowed) refl
    (ap Rows (is ∙ sym (ap (graph_rows key labels) there))) refl
rows-step caller part name key labels graph (Err why) there is allowed refused =
    step-unless caller (GraphRows name key labels) part why refl (rows-plain name key labels (under name part.lists.graphs))
    (subst (λ (r : Option Refusal). UnlessMem why (r ≡ Some why)) (sym (ap (refused_rows name key labels) there)) refused) refl
