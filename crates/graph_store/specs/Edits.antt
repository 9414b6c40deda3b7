-- Edits of slots, one id after another.
use Rattle.std.specs.Prelude.{◌≡◌, ℕ, ◌+◌, sum_by, ℤ, Bool, not, ◌&&◌, if◌then◌else◌, List, Option, Some, None, is_some}
use Rattle.graph_model.specs.declared.graph.Node.{Node}
use Rattle.graph_model.specs.declared.graph.Rel.{Rel}
use Rattle.graph_model.specs.declared.graph.Prop.{Prop}
use Rattle.store_tables.specs.Slots.{slot_at, slot_count}
use Rattle.graph_model.specs.Change.{set_prop, set_if_there, last_value, is_listed}

-- what becomes of a slot: an element of a listed id is edited
abbrev pub edit_slot : {A : Type 0} → (A → ℕ) → (A → Option A) → List ℕ → Option A → Option A
edit_slot id_of edit ids None = None
edit_slot id_of edit ids (Some element) = if is_listed ids (id_of element) then edit element else Some element

-- an element that goes
abbrev pub gone : {A : Type 0} → A → Option A
gone element = None

-- an element with a key set by pairs of an id and a value, by what its id, its values and itself with other values are
abbrev pub set_by : {A : Type 0} → (A → ℕ) → (A → List Prop) → (A → List Prop → A) → List ℕ → List (ℕ × ℤ) → A → A
set_by id_of props_of with_props key pairs element = with_props element (set_if_there key (last_value pairs (id_of element)) (props_of element))

-- an element with a key set
abbrev pub with_value : {A : Type 0} → (A → List Prop) → (A → List Prop → A) → List ℕ → ℤ → A → A
with_value props_of with_props key value element = with_props element (set_prop key value (props_of element))

-- whether both ends of a relationship live
abbrev pub ends_live : List (Option Node) → Rel → Bool
ends_live nodes rel = is_some (slot_at nodes rel.source) && is_some (slot_at nodes rel.target)

-- whether an element isn't listed by its id
abbrev pub is_unlisted : {A : Type 0} → (A → ℕ) → List ℕ → A → Bool
is_unlisted id_of ids element = not (is_listed ids (id_of element))

-- however much each element weighs: what is left and what is gone weigh what there was
abbrev pub WeighsSame : {A : Type 0} → List (Option A) → List (Option A) → List A → Type 0
WeighsSame {A} slots left gone = (weight : A → ℕ) → sum_by (slot_count weight) left + sum_by weight gone ≡ sum_by (slot_count weight) slots
