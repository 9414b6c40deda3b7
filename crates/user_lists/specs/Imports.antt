-- Answers of imports that are kept, and that are forgotten.
use Rattle.std.specs.Prelude.{◌≡◌, ℕ, not, List, filter, None}
use Rattle.std.specs.Str.{bytes_eq}
use Rattle.std.specs.declared.cmp.Ordering.TheVariants.{Less}
use Rattle.graph_model.specs.declared.change.ChangeReply.{ChangeReply}
use Rattle.graph_model.specs.Kept.{entry_order}
use Rattle.graph_model.specs.Lists.{Pairwise, placed}
use Rattle.graph_model.specs.Projection.{under}
use Rattle.desk_model.specs.State.{UserLists}

-- answers stand by ascending import id
abbrev pub AnswersAscend : List (List ℕ × ChangeReply) → Type 0
AnswersAscend imports = Pairwise (λ a b. entry_order a b ≡ Less) imports

-- answers without the one under an id
abbrev pub without_answer : List ℕ → List (List ℕ × ChangeReply) → List (List ℕ × ChangeReply)
without_answer id imports = filter (λ entry. not (bytes_eq entry.0 id)) imports

-- lists without the answer under an import id
abbrev pub lists_without_answer : List ℕ → UserLists → UserLists
lists_without_answer id lists = record lists { imports = without_answer id lists.imports }

-- an answer that is kept under a new id and then forgotten leaves the answers as they were
abbrev pub ForgettingUndoes : Type 0
ForgettingUndoes = (id : List ℕ) (answer : ChangeReply) (imports : List (List ℕ × ChangeReply)) →
    AnswersAscend imports → under id imports ≡ None → without_answer id (placed entry_order (id, answer) imports) ≡ imports
