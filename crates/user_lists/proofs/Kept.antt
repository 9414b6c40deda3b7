-- Answers by import id, as an ordered map has them.
use Rattle.std.proofs.Common.{◌≡◌, ℕ, Bool, true, false, cond, not, List, [], ◌∷◌, ◌++◌, Some, None, refl, sym, ap, ◌∙◌, ⊎_elim}
use Rattle.std.specs.Str.{bytes_eq}
use Rattle.std.specs.List.{AllByRecursion, filter}
use Rattle.std.specs.Ordering.{nat_cmp, is_eq}
use Rattle.std.specs.Cmp.Lexicographic.{slice_cmp, bytes_decides}
use Rattle.std.specs.declared.cmp.Ordering.TheVariants.{Less}
use Rattle.std.proofs.lemmas.Bool.{cases_Bool, false_from_ne_true, true≢false}
use Rattle.std.proofs.lemmas.Map.Text.{is_eq-slice_cmp}
use Rattle.std.specs.Map.{lookup, remove_entry}
use Rattle.std.proofs.lemmas.List.Elements.{filter-append}
use Rattle.graph_model.specs.declared.change.ChangeReply.{ChangeReply}
use Rattle.graph_model.specs.Kept.{entry_order}
use Rattle.graph_model.specs.Lists.{placed}
use Rattle.graph_model.specs.Projection.{under}
use Rattle.graph_model.proofs.KeptLemmas.{entry_order_total}
use Rattle.graph_model.proofs.Placed.{is_before, is_behind, is_other, split}
use Rattle.desk_model.specs.State.{UserLists, no_lists}
use Rattle.user_lists.specs.Imports.{AnswersAscend, without_answer}

-- the lists of a user of whom these answers are kept, and nothing else
abbrev pub of_entries : List (List ℕ × ChangeReply) → UserLists
of_entries entries = record no_lists { imports = entries }

-- lists with these answers in place of theirs
abbrev pub with_entries : UserLists → List (List ℕ × ChangeReply) → UserLists
with_entries lists entries = record lists { imports = entries }

-- two ids compare as equal exactly where they are the same
pub same_id : (id other : List ℕ) → is_eq (slice_cmp nat_cmp id other) ≡ bytes_eq other id
same_id id other =
    ⊎_elim
    (λ (same : bytes_eq other id ≡ true).
    is_eq-slice_cmp id other ∙ (bytes_decides id other).1 (sym ((bytes_decides other id).0 same)) ∙ sym same)
    (λ (differs : bytes_eq other id ≡ false).
    let other_way = false_from_ne_true (bytes_eq id other) (λ same. true≢false (sym ((bytes_decides other id).1 (sym ((bytes_decides id other).0 same))) ∙ differs)) in
    is_eq-slice_cmp id other ∙ other_way ∙ sym differs)
    (cases_Bool (bytes_eq other id))

pub lookup-under : {A : Type 0} (id : List ℕ) (entries : List (List ℕ × A)) → lookup (λ other. is_eq (slice_cmp nat_cmp id other)) entries ≡ under id entries
lookup-under id [] = refl
lookup-under id (entry ∷ entries) =
    ap (λ b. cond b (Some entry.1) (lookup (λ other. is_eq (slice_cmp nat_cmp id other)) entries)) (same_id id entry.0)
    ∙ ap (λ rest. cond (bytes_eq entry.0 id) (Some entry.1) rest) (lookup-under id entries)

-- ---- forgetting

-- answers stay where none of their ids is the one that is forgotten
nothing_goes : (id : List ℕ) (es : List (List ℕ × ChangeReply)) → AllByRecursion (λ e. bytes_eq e.0 id ≡ false) es → without_answer id es ≡ es
nothing_goes id [] all = refl
nothing_goes id (e ∷ es) all = rw all.0 (ap (λ (rest : List (List ℕ × ChangeReply)). e ∷ rest) (nothing_goes id es all.1))

-- ids behind an id are others
behind_differ : (id : List ℕ) (e : List ℕ × ChangeReply) (es : List (List ℕ × ChangeReply)) → e.0 ≡ id → AllByRecursion (λ f. entry_order e f ≡ Less) es → AllByRecursion (λ f. bytes_eq f.0 id ≡ false) es
behind_differ id e [] same all = tt
behind_differ id e (f ∷ es) same all =
    (sym (same_id id f.0) ∙ ap (λ (text : List ℕ). is_eq (slice_cmp nat_cmp text f.0)) (sym same) ∙ ap is_eq all.0, behind_differ id e es same all.1)

-- an ordered map forgets the answer under an id
pub remove-without : (id : List ℕ) (es : List (List ℕ × ChangeReply)) → AnswersAscend es → remove_entry (λ other. is_eq (slice_cmp nat_cmp id other)) es ≡ without_answer id es
remove-without id [] pairs = refl
remove-without id (e ∷ es) pairs =
    ⊎_elim
    (λ (same : bytes_eq e.0 id ≡ true).
    rw (same_id id e.0 ∙ same, same) (sym (nothing_goes id es (behind_differ id e es ((bytes_decides e.0 id).0 same) pairs.0))))
    (λ (differs : bytes_eq e.0 id ≡ false).
    rw (same_id id e.0 ∙ differs, differs) (ap (λ (rest : List (List ℕ × ChangeReply)). e ∷ rest) (remove-without id es pairs.1)))
    (cases_Bool (bytes_eq e.0 id))

-- ---- forgetting undoes keeping

pub own_id : (id : List ℕ) → bytes_eq id id ≡ true
own_id id = (bytes_decides id id).1 refl

-- the first id is another where an id isn't there
first_differs : (id : List ℕ) (entry : List ℕ × ChangeReply) (entries : List (List ℕ × ChangeReply)) → under id (entry ∷ entries) ≡ None → bytes_eq entry.0 id ≡ false
first_differs id entry entries absent =
    false_from_ne_true (bytes_eq entry.0 id) (λ same. let there : Some entry.1 ≡ None = rw same at absent in cc)

rest_absent : (id : List ℕ) (entry : List ℕ × ChangeReply) (entries : List (List ℕ × ChangeReply)) → under id (entry ∷ entries) ≡ None → under id entries ≡ None
rest_absent id entry entries absent = rw (first_differs id entry entries absent) at absent

-- where an id isn't there, each id is another
absent_everywhere : (id : List ℕ) (es : List (List ℕ × ChangeReply)) → under id es ≡ None → AllByRecursion (λ e. bytes_eq e.0 id ≡ false) es
absent_everywhere id [] absent = tt
absent_everywhere id (e ∷ es) absent = (first_differs id e es absent, absent_everywhere id es (rest_absent id e es absent))

-- answers that aren't the same as one are those without its id
others_without : (id : List ℕ) (answer : ChangeReply) (es : List (List ℕ × ChangeReply)) → filter (is_other entry_order entry_order_total (id, answer)) es ≡ without_answer id es
others_without id answer [] = refl
others_without id answer (e ∷ es) =
    let test : is_other entry_order entry_order_total (id, answer) e ≡ not (bytes_eq e.0 id) = ap not (is_eq-slice_cmp e.0 id) in
    ap (λ (b : Bool). cond b (e ∷ filter (is_other entry_order entry_order_total (id, answer)) es) (filter (is_other entry_order entry_order_total (id, answer)) es)) test
    ∙ ap (λ (rest : List (List ℕ × ChangeReply)). cond (not (bytes_eq e.0 id)) (e ∷ rest) rest) (others_without id answer es)

pub forgotten : (id : List ℕ) (answer : ChangeReply) (es : List (List ℕ × ChangeReply)) → AnswersAscend es → under id es ≡ None → without_answer id (placed entry_order (id, answer) es) ≡ es
forgotten id answer es pairs absent =
    let front = filter (is_before entry_order entry_order_total (id, answer)) es in
    let back = filter (is_behind entry_order entry_order_total (id, answer)) es in
    let stays = nothing_goes id es (absent_everywhere id es absent) in
    filter-append (λ e. not (bytes_eq e.0 id)) front ((id, answer) ∷ back)
    ∙ ap (λ (rest : List (List ℕ × ChangeReply)). without_answer id front ++ rest) (rw (own_id id) refl)
    ∙ sym (filter-append (λ e. not (bytes_eq e.0 id)) front back)
    ∙ ap (without_answer id) (split entry_order entry_order_total (id, answer) es pairs ∙ others_without id answer es ∙ stays)
    ∙ stays
