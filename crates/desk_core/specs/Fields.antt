-- What clauses see of a desk.
use Rattle.std.specs.Prelude.{◌≡◌, ℕ, List, Option, Some, None}
use Rattle.std.specs.Option.{option_map}
use Rattle.graph_model.specs.declared.graph.PropertyGraph.{PropertyGraph}
use Rattle.graph_model.specs.declared.kept.ImportNote.{ImportNote}
use Rattle.graph_model.specs.declared.kept.Kept.{Kept}
use Rattle.graph_model.specs.Kept.{answers_of, NoteBefore}
use Rattle.graph_model.specs.Lists.{Pairwise}
use Rattle.desk_model.specs.State.{UserLists, State}
use Rattle.desk_model.specs.Valid.{IsValidLists}
use Rattle.user_lists.specs.Users.{lists_of}

-- the keeper, the graph of the store, the administrator or none, and the lists of users
pub record DeskFields (K : Type 0) : Type 0 where
  pub keeper : K
  pub graph : PropertyGraph
  pub admin : Option (List ℕ)
  pub users : List (List ℕ × UserLists)

-- the state of the machine that a desk stands for
abbrev pub state_of : {K : Type 0} → DeskFields K → State
state_of desk = record { graph = desk.graph; admin = desk.admin; lists = lists_of desk.users }

-- a desk has the graph, the administrator and the keeper that it had
pub record KeepsStore {K : Type 0} (old new : DeskFields K) : Type 0 where
  pub keeper : new.keeper ≡ old.keeper
  pub graph : new.graph ≡ old.graph
  pub admin : new.admin ≡ old.admin

-- the lists of every user are valid
abbrev pub IsValidUsers : List (List ℕ × UserLists) → Type 0
IsValidUsers users = (user : List ℕ) → IsValidLists (lists_of users user)

-- a graph is the one that is told, where something is told
abbrev pub TellsGraph : Option Kept → PropertyGraph → Type 0
TellsGraph None g = Unit {0}
TellsGraph (Some kept) g = g ≡ kept.graph

-- the notes that are told, where something is told
abbrev pub told_notes : Option Kept → Option (List ImportNote)
told_notes told = option_map (λ kept. kept.imports) told

-- notes are in order, and each user has the answers among them
pub record AreAnswers (notes : List ImportNote) (users : List (List ℕ × UserLists)) : Type 0 where
  pub ascend : Pairwise NoteBefore notes
  pub answers : (user : List ℕ) → (lists_of users user).imports ≡ answers_of user notes

-- the answers of all users are those that are told, where some are told
abbrev pub TellsAnswers : Option (List ImportNote) → List (List ℕ × UserLists) → Type 0
TellsAnswers None users = Unit {0}
TellsAnswers (Some notes) users = AreAnswers notes users

-- the graph and the answers are those that are told, where something is told, and the lists of every user are valid
pub record IsDeskOf (told : Option Kept) (g : PropertyGraph) (users : List (List ℕ × UserLists)) : Type 0 where
  pub graph : TellsGraph told g
  pub answers : TellsAnswers (told_notes told) users
  pub valid : IsValidUsers users
