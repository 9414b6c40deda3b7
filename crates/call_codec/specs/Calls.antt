-- The procedures and their arguments.
--   procedure_named name      the procedure of a name
--   arguments_of procedure    the names of its arguments, in the order in which they are judged
--   are_ends_below            whether the new ends of a relationship lie below a number of nodes
--   call_of procedure args    the call of a procedure with these arguments, or the first argument that is wrong
use Rattle.std.specs.Prelude.{ℕ, ℤ, nat_eq, nat_lt, Bool, true, ◌&&◌, if◌then◌else◌, List, [], ◌∷◌, length, Option, Some, None, unwrap_or, Result, Ok, Err, codes}
use Rattle.std.specs.List.{list_all}
use Rattle.std.specs.Cmp.Lexicographic.{pointwise}
use Rattle.serde_json.specs.Data.{Data}
use Rattle.graph_model.specs.declared.graph.Choice.{Choice}
use Rattle.graph_model.specs.declared.graph.Choice.TheVariants.{All}
use Rattle.graph_model.specs.declared.change.NewNode.{NewNode}
use Rattle.graph_model.specs.declared.change.NewRel.{NewRel}
use Rattle.graph_model.specs.declared.change.Place.{Place}
use Rattle.graph_model.specs.declared.change.Place.TheVariants.{Old, New}
use Rattle.graph_model.specs.declared.change.Change.TheVariants as change
use Rattle.graph_model.specs.declared.refusal.Refusal.{Refusal}
use Rattle.json_forms.specs.Arguments.{right_at, required, optional, list_or_empty}
use Rattle.json_forms.specs.Elements.{read_node, read_rel}
use Rattle.json_forms.specs.Forms.{read_name, read_tag, read_id, read_pair, read_list, read_choice}
use Rattle.desk_model.specs.declared.call.Call.{Call}
use Rattle.desk_model.specs.declared.call.Call.TheVariants as call
use Rattle.call_codec.specs.declared.procedure.Procedure.{Procedure}
use Rattle.call_codec.specs.declared.procedure.Procedure.TheVariants.{Create, SetNodes, SetRels, DeleteNodes, DeleteRels, NodeProperty}

-- whether a text is this one
abbrev pub is_text : List ℕ → List ℕ → Bool
is_text wanted text = pointwise nat_eq text wanted

-- the procedure of a name
abbrev pub procedure_named : List ℕ → Option Procedure
procedure_named name =
    if is_text (codes "gds.store.create") name then Some Create
    else (if is_text (codes "gds.store.setNodes") name then Some SetNodes
    else (if is_text (codes "gds.store.setRelationships") name then Some SetRels
    else (if is_text (codes "gds.store.deleteNodes") name then Some DeleteNodes
    else (if is_text (codes "gds.store.deleteRelationships") name then Some DeleteRels
    else (if is_text (codes "gds.store.nodeProperty") name then Some NodeProperty
    else None)))))

-- the names of the arguments of a procedure, in the order in which they are judged
abbrev pub arguments_of : Procedure → List (List ℕ)
arguments_of Create = codes "importId" ∷ codes "nodes" ∷ codes "relationships" ∷ []
arguments_of SetNodes = codes "key" ∷ codes "values" ∷ []
arguments_of SetRels = codes "key" ∷ codes "values" ∷ []
arguments_of DeleteNodes = codes "ids" ∷ []
arguments_of DeleteRels = codes "ids" ∷ []
arguments_of NodeProperty = codes "key" ∷ codes "labels" ∷ []

-- two results, or the first refusal
abbrev pub both : {A B : Type 0} → Result A Refusal → Result B Refusal → Result (A × B) Refusal
both (Err why) b = Err why
both (Ok a) (Err why) = Err why
both (Ok a) (Ok b) = Ok (a, b)

-- what follows a result that isn't refused
abbrev pub followed : {A B : Type 0} → (A → Result B Refusal) → Result A Refusal → Result B Refusal
followed next (Err why) = Err why
followed next (Ok value) = next value

-- what is made of a result that isn't refused
abbrev pub made : {A B : Type 0} → (A → B) → Result A Refusal → Result B Refusal
made make (Err why) = Err why
made make (Ok value) = Ok (make value)

-- whether an end names no new node from this number on
abbrev pub is_end_below : ℕ → Place → Bool
is_end_below count (Old id) = true
is_end_below count (New index) = nat_lt index count

abbrev pub are_ends_below : ℕ → NewRel → Bool
are_ends_below count rel = is_end_below count rel.source && is_end_below count rel.target

-- a call that creates nodes and relationships, whose new ends lie below the number of the nodes
abbrev pub creation : Option (List ℕ) → List NewNode → List NewRel → Option Call
creation import nodes rels =
    if list_all (are_ends_below (length nodes)) rels then Some (call.Create import (change.Create nodes rels)) else None

abbrev pub creation_of : Option (List ℕ) → List NewNode → List NewRel → Result Call Refusal
creation_of import nodes rels = right_at (codes "relationships") (creation import nodes rels)

-- the same, with an import id and nodes that were read
abbrev pub create_with : Data → Option (List ℕ) × List NewNode → Result Call Refusal
create_with args read = followed (creation_of read.0 read.1) (list_or_empty (codes "relationships") read_rel args)

-- a call that sets values of nodes, or of relationships
abbrev pub set_nodes : List ℕ × List (ℕ × ℤ) → Call
set_nodes read = call.Alter (change.SetNodes read.0 read.1)

abbrev pub set_rels : List ℕ × List (ℕ × ℤ) → Call
set_rels read = call.Alter (change.SetRels read.0 read.1)

-- a call that deletes nodes, or relationships
abbrev pub delete_nodes : List ℕ → Call
delete_nodes ids = call.Alter (change.DeleteNodes ids)

abbrev pub delete_rels : List ℕ → Call
delete_rels ids = call.Alter (change.DeleteRels ids)

-- a call that asks for the values under a key
abbrev pub node_property : List ℕ × Option Choice → Call
node_property read = call.StoreRows read.0 (unwrap_or read.1 All)

-- the call of a procedure with these arguments, or the first argument that is wrong
abbrev pub call_of : Procedure → Data → Result Call Refusal
call_of Create args =
    followed (create_with args) (both (optional (codes "importId") read_tag args) (list_or_empty (codes "nodes") read_node args))
call_of SetNodes args = made set_nodes (both (required (codes "key") read_name args) (required (codes "values") (read_list read_pair) args))
call_of SetRels args = made set_rels (both (required (codes "key") read_name args) (required (codes "values") (read_list read_pair) args))
call_of DeleteNodes args = made delete_nodes (required (codes "ids") (read_list read_id) args)
call_of DeleteRels args = made delete_rels (required (codes "ids") (read_list read_id) args)
call_of NodeProperty args = made node_property (both (required (codes "key") read_name args) (optional (codes "labels") read_choice args))
