-- Changes and rows of the store, as steps of the machine.
use Rattle.std.proofs.Common.{◌≡◌, ℕ, ℤ, true, false, List, Option, Some, None, Result, Ok, Err, IfOk, IfErr, OnOk, OnErr, IsTrue, true≢false, refl, sym, ap, ◌∙◌}
use Rattle.graph_model.specs.declared.change.Change as model
use Rattle.graph_model.specs.declared.change.ChangeReply.{ChangeReply}
use Rattle.graph_model.specs.declared.graph.Choice.{Choice}
use Rattle.graph_model.specs.declared.graph.Column.{Column}
use Rattle.graph_model.specs.declared.graph.PropertyGraph.{PropertyGraph}
use Rattle.graph_model.specs.declared.memory.Mem.{Mem as TheMem}
use Rattle.graph_model.specs.declared.refusal.Refusal.{Refusal}
use Rattle.graph_model.specs.declared.refusal.Refusal.TheVariants.{Mem, StoreFault}
use Rattle.graph_model.specs.Change.{after_change, refused_change, change_answer}
use Rattle.desk_model.specs.declared.asked.Event.TheVariants as event
use Rattle.desk_model.specs.Replies.{PlainReply, Changed, Stored, Refused, rows_of}
use Rattle.desk_model.specs.State.{Part, State, part_of}
use Rattle.desk_model.specs.Step.{Plain, IsPartStep, IsStep, is_fault, mark_of, mark_of_refusal, stored_rows}
use Rattle.user_lists.proofs.Steps.{IsPlain, step-done, step-memory, step-refused}
use Rattle.desk_core.specs.Answered.{IsCause, UnlessStoreFault, change_reply, rows_reply}
use Rattle.desk_core.proofs.GraphSteps.{still-step}

-- rows of the store are told, where there is memory for them
pub stored_step : (s : State) (user key : List ℕ) (labels : Choice) (made : Result Column TheMem) → IfOk made (λ column. rows_of column ≡ stored_rows key labels s.graph) → IsStep user (event.StoreRows key labels) s (rows_reply made) s
stored_step s user key labels (Ok column) is =
    still-step s user (event.StoreRows key labels) (Stored (rows_of column)) refl
    (step-done user (event.StoreRows key labels) (part_of s user) (part_of s user) (Stored (rows_of column)) refl refl (ap Stored is) refl)
stored_step s user key labels (Err none) is =
    still-step s user (event.StoreRows key labels) (Refused Mem) refl (step-memory user (event.StoreRows key labels) (part_of s user) refl)

-- why a change isn't made of which no answer is kept
caused_step : (caller : List ℕ) (change : model.Change) (old : Part) (why : Refusal) → IsCause why (refused_change old.graph change) → IsPartStep caller (event.Change None change) old (Refused why) old
caused_step caller change old Mem cause = step-memory caller (event.Change None change) old refl
caused_step caller change old (StoreFault batches) cause = record { mark = (refl, cause.1); answer = ap (λ (n : ℕ). Refused (StoreFault n)) cause.0; left = refl }
caused_step caller change old why cause = step-refused caller (event.Change None change) old old why (rw cause refl) cause refl

-- a change of which no answer is kept
pub change_step : (caller : List ℕ) (change : model.Change) (old : Part) (after : PropertyGraph) (made : Result ChangeReply Refusal) → IfOk made (λ answer. answer ≡ change_answer old.graph change) → OnOk made (after ≡ after_change old.graph change) → OnOk made (refused_change old.graph change ≡ None) → OnErr made (after ≡ old.graph) → IfErr made (λ why. IsCause why (refused_change old.graph change)) → IsPartStep caller (event.Change None change) old (change_reply made) (record old { graph = after })
change_step caller change old after (Ok answer) is made allowed err refused =
    step-done caller (event.Change None change) old (record old { graph = after }) (Changed answer) allowed refl (ap Changed is) (ap (λ (g : PropertyGraph). record old { graph = g }) made)
change_step caller change old after (Err why) is made allowed err refused =
    rw err (caused_step caller change old why refused)

-- a fault that a change is answered with says that no batches were done
pub faulted : (caller : List ℕ) (import : Option (List ℕ)) (change : model.Change) (old new : Part) (made : Result ChangeReply Refusal) → IsPartStep caller (event.Change import change) old (change_reply made) new → IsTrue (is_fault (mark_of (change_reply made))) → made ≡ Err (StoreFault 0)
faulted caller import change old new (Ok answer) step fault = absurd (true≢false (sym fault))
faulted caller import change old new (Err (StoreFault batches)) step fault =
    let same : Refused (StoreFault batches) ≡ Refused (StoreFault 0) = step.answer in
    let none : batches ≡ 0 = cc in
    ap (λ (n : ℕ). Err (StoreFault n)) none
faulted caller import change old new (Err why) step fault = absurd (true≢false (sym fault))

-- where no fault is answered, what holds unless there was one does
pub calm_of : (made : Result ChangeReply Refusal) (P : Type 0) → UnlessStoreFault made P → is_fault (mark_of (change_reply made)) ≡ false → P
calm_of (Ok answer) P holds calm = holds
calm_of (Err (StoreFault batches)) P holds calm = absurd (true≢false calm)
calm_of (Err why) P holds calm = holds
