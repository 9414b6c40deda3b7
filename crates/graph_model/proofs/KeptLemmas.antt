-- What a note that is added does to the answers of its user and of all others.
use Rattle.std.proofs.Common.{◌≡◌, ◌≢◌, inl, inr, ℕ, ◌+◌, ◌≤◌, Bool, true, false, cond, not, List, [], ◌∷◌, ◌++◌, length, Option, Some, None, refl, sym, ap, ap₂, ◌∙◌, arith}
use Rattle.std.specs.List.{AllByRecursion, filter}
use Rattle.std.specs.Str.{bytes_eq}
use Rattle.std.specs.Ordering.{nat_cmp, is_eq, is_lt, ordering_then, match_ordering, on}
use Rattle.std.specs.Cmp.{IsTotalOrder, then_total, on_total}
use Rattle.std.specs.Cmp.Lexicographic.{slice_cmp, nat_list_cmp_total, bytes_decides}
use Rattle.std.specs.BTreeMap.{insert_entry}
use Rattle.std.specs.declared.cmp.Ordering.{Ordering}
use Rattle.std.specs.declared.cmp.Ordering.TheVariants.{Less, Equal, Greater}
use Rattle.std.proofs.lemmas.Bool.{cases_Bool, false_from_ne_true, true≢false}
use Rattle.std.proofs.lemmas.Map.Text.{is_eq-slice_cmp}
use Rattle.graph_model.specs.declared.change.Change.{Change}
use Rattle.graph_model.specs.declared.change.ChangeReply.{ChangeReply}
use Rattle.graph_model.specs.declared.kept.ImportNote.{ImportNote}
use Rattle.graph_model.specs.declared.kept.Kept.{Kept}
use Rattle.graph_model.specs.Change.{ChangeFits}
use Rattle.graph_model.specs.Kept.{most_imports, note_order, NoteBefore, entry_order, is_note_of, answer_entry, answers_of, notes_after, kept_after, NoteFits, IsValidKept}
use Rattle.graph_model.specs.KeptLaws.{FittingCommitKeepsKept, AddsAnswer, NotesAddAnswers, AnswerStandsUnderId}
use Rattle.graph_model.specs.Lists.{Pairwise, placed}
use Rattle.graph_model.specs.Projection.{under}
use Rattle.graph_model.proofs.LawLemmas.{fitting_change_keeps_graph}
use Rattle.graph_model.proofs.OrderLemmas.{exact}
use Rattle.graph_model.proofs.Placed.{is_before, is_behind, is_other, split, placed-ascends, length-placed, inserted-placed}

pub note_order_total : IsTotalOrder note_order
note_order_total = then_total (on_total (λ (n : ImportNote). n.user) nat_list_cmp_total) (on_total (λ (n : ImportNote). n.id) nat_list_cmp_total)

pub entry_order_total : {A : Type 0} → IsTotalOrder (entry_order {A = A})
entry_order_total {A} = on_total (λ (e : List ℕ × A). e.0) nat_list_cmp_total

same_text : (a b : List ℕ) → bytes_eq a b ≡ true → a ≡ b
same_text a b same = (bytes_decides a b).0 same

own_text : (a : List ℕ) → bytes_eq a a ≡ true
own_text a = (bytes_decides a a).1 refl

differing : (a b : List ℕ) → a ≢ b → bytes_eq a b ≡ false
differing a b apart = false_from_ne_true (bytes_eq a b) (λ same. apart (same_text a b same))

-- notes of one user are ordered by their ids
of_one_user : (a b : ImportNote) → a.user ≡ b.user → note_order a b ≡ slice_cmp nat_cmp a.id b.id
of_one_user a b same = ap (λ (r : Ordering). ordering_then r (slice_cmp nat_cmp a.id b.id)) (ap (λ user. slice_cmp nat_cmp a.user user) (sym same) ∙ equal a.user)
  where
    tied : (r : Ordering) → is_eq r ≡ true → r ≡ Equal
    tied Less h = absurd cc
    tied Equal h = refl
    tied Greater h = absurd cc

    equal : (user : List ℕ) → slice_cmp nat_cmp user user ≡ Equal
    equal user = tied (slice_cmp nat_cmp user user) (is_eq-slice_cmp user user ∙ own_text user)

-- notes of two users don't compare as equal
of_two_users : (a b : ImportNote) → a.user ≢ b.user → is_eq (note_order a b) ≡ false
of_two_users a b apart = unequal (slice_cmp nat_cmp a.user b.user) (slice_cmp nat_cmp a.id b.id) (is_eq-slice_cmp a.user b.user ∙ differing a.user b.user apart)
  where
    unequal : (r s : Ordering) → is_eq r ≡ false → is_eq (ordering_then r s) ≡ false
    unequal Less s h = refl
    unequal Equal s h = absurd cc
    unequal Greater s h = refl

-- ---- the answers of one user among notes

answers-append : (user : List ℕ) (xs ys : List ImportNote) → answers_of user (xs ++ ys) ≡ answers_of user xs ++ answers_of user ys
answers-append user [] ys = refl
answers-append user (x ∷ xs) ys =
    elim (cases_Bool (is_note_of user x)) [
      | inl own ↦ rw own (ap (λ (es : List (List ℕ × ChangeReply)). answer_entry x ∷ es) (answers-append user xs ys))
      | inr other ↦ rw other (answers-append user xs ys)
    ]

-- of those that pass a test, where the test goes by the answer
answers-kept : (user : List ℕ) (test : ImportNote → Bool) (passes : List ℕ × ChangeReply → Bool) → ((y : ImportNote) → is_note_of user y ≡ true → test y ≡ passes (answer_entry y)) → (ys : List ImportNote) → answers_of user (filter test ys) ≡ filter passes (answers_of user ys)
answers-kept user test passes same [] = refl
answers-kept user test passes same (y ∷ ys) =
    elim (cases_Bool (is_note_of user y)) [
      | inl own ↦ elim (cases_Bool (test y)) [
        | inl kept ↦ rw (kept, own, sym (same y own) ∙ kept) (ap (λ (es : List (List ℕ × ChangeReply)). answer_entry y ∷ es) (answers-kept user test passes same ys))
        | inr gone ↦ rw (gone, own, sym (same y own) ∙ gone) (answers-kept user test passes same ys)
      ]
      | inr other ↦ elim (cases_Bool (test y)) [
        | inl kept ↦ rw (kept, other) (answers-kept user test passes same ys)
        | inr gone ↦ rw (gone, other) (answers-kept user test passes same ys)
      ]
    ]

-- all answers, where each note of the user passes
answers-all : (user : List ℕ) (test : ImportNote → Bool) → ((y : ImportNote) → is_note_of user y ≡ true → test y ≡ true) → (ys : List ImportNote) → answers_of user (filter test ys) ≡ answers_of user ys
answers-all user test all [] = refl
answers-all user test all (y ∷ ys) =
    elim (cases_Bool (is_note_of user y)) [
      | inl own ↦ rw (all y own, own) (ap (λ (es : List (List ℕ × ChangeReply)). answer_entry y ∷ es) (answers-all user test all ys))
      | inr other ↦ elim (cases_Bool (test y)) [
        | inl kept ↦ rw (kept, other) (answers-all user test all ys)
        | inr gone ↦ rw (gone, other) (answers-all user test all ys)
      ]
    ]

-- ---- a note that is added

pub adds_own : (note : ImportNote) (notes : List ImportNote) → answers_of note.user (placed note_order note notes) ≡ placed entry_order (answer_entry note) (answers_of note.user notes)
adds_own note notes =
    answers-append note.user (filter (is_before note_order note_order_total note) notes) (note ∷ filter (is_behind note_order note_order_total note) notes)
    ∙ ap₂ ◌++◌
    (answers-kept note.user (is_before note_order note_order_total note) (λ e. is_lt (entry_order e (answer_entry note)))
    (λ y own. ap is_lt (of_one_user y note (same_text y.user note.user own))) notes)
    (rw (own_text note.user) (ap (λ (es : List (List ℕ × ChangeReply)). answer_entry note ∷ es)
    (answers-kept note.user (is_behind note_order note_order_total note) (λ e. is_lt (entry_order (answer_entry note) e))
    (λ y own. ap is_lt (of_one_user note y (sym (same_text y.user note.user own)))) notes)))

pub keeps_others : (note : ImportNote) (notes : List ImportNote) → Pairwise NoteBefore notes → (user : List ℕ) → user ≢ note.user → answers_of user (placed note_order note notes) ≡ answers_of user notes
keeps_others note notes pairs user apart =
    let front = filter (is_before note_order note_order_total note) notes in
    let back = filter (is_behind note_order note_order_total note) notes in
    let foreign : is_note_of user note ≡ false = differing note.user user (λ same. apart (sym same)) in
    answers-append user front (note ∷ back)
    ∙ ap (λ es. answers_of user front ++ es) (dropped foreign back)
    ∙ sym (answers-append user front back)
    ∙ ap (answers_of user) (split note_order note_order_total note notes pairs)
    ∙ answers-all user (is_other note_order note_order_total note)
    (λ y own. ap not (of_two_users y note (λ same. apart (sym (same_text y.user user own) ∙ same)))) notes
  where
    dropped : is_note_of user note ≡ false → (ys : List ImportNote) → answers_of user (note ∷ ys) ≡ answers_of user ys
    dropped foreign ys = rw foreign refl

pub notes_add_answers : NotesAddAnswers
notes_add_answers note notes pairs = record { own = adds_own note notes; others = keeps_others note notes pairs }

-- ---- answers stand in order

ascend_behind : (user : List ℕ) (note : ImportNote) (ys : List ImportNote) → is_note_of user note ≡ true → AllByRecursion (NoteBefore note) ys → AllByRecursion (λ (e : List ℕ × ChangeReply). entry_order (answer_entry note) e ≡ Less) (answers_of user ys)
ascend_behind user note [] own all = tt
ascend_behind user note (y ∷ ys) own all =
    elim (cases_Bool (is_note_of user y)) [
      | inl same ↦ rw same (sym (of_one_user note y (same_text note.user user own ∙ sym (same_text y.user user same))) ∙ all.0, ascend_behind user note ys own all.1)
      | inr other ↦ rw other (ascend_behind user note ys own all.1)
    ]

pub answers_ascend : (user : List ℕ) (notes : List ImportNote) → Pairwise NoteBefore notes → Pairwise (λ a b. entry_order a b ≡ Less) (answers_of user notes)
answers_ascend user [] pairs = tt
answers_ascend user (note ∷ notes) pairs =
    elim (cases_Bool (is_note_of user note)) [
      | inl own ↦ rw own (ascend_behind user note notes own pairs.0, answers_ascend user notes pairs.1)
      | inr other ↦ rw other (answers_ascend user notes pairs.1)
    ]

-- ---- what stands under an id

under_inserted : (k : List ℕ) (v : ChangeReply) (es : List (List ℕ × ChangeReply)) (id : List ℕ) → under id (insert_entry (slice_cmp nat_cmp) es k v) ≡ cond (bytes_eq k id) (Some v) (under id es)
under_inserted k v [] id = refl
under_inserted k v (e ∷ es) id = by (slice_cmp nat_cmp k e.0) refl (under_inserted k v es id)
  where
    by : (r : Ordering) → slice_cmp nat_cmp k e.0 ≡ r → under id (insert_entry (slice_cmp nat_cmp) es k v) ≡ cond (bytes_eq k id) (Some v) (under id es)
        → under id (match_ordering r ((k, v) ∷ e ∷ es) ((e.0, v) ∷ es) (e ∷ insert_entry (slice_cmp nat_cmp) es k v)) ≡ cond (bytes_eq k id) (Some v) (under id (e ∷ es))
    by Less h rest = refl
    by Equal h rest =
        let same = exact k e.0 h in
        elim (cases_Bool (bytes_eq e.0 id)) [
          | inl here ↦ rw (same, here) refl
          | inr there ↦ rw (same, there) refl
        ]
    by Greater h rest =
        elim (cases_Bool (bytes_eq e.0 id)) [
          | inl here ↦
              let apart : bytes_eq k id ≡ false =
              false_from_ne_true (bytes_eq k id) (λ same.
              let one : k ≡ e.0 = same_text k id same ∙ sym (same_text e.0 id here) in
              true≢false (sym (own_text k) ∙ ap (bytes_eq k) one ∙ sym (is_eq-slice_cmp k e.0) ∙ ap is_eq h))
              in rw (here, apart) refl
          | inr there ↦ rw (there, rest) refl
        ]

pub under_placed : (k : List ℕ) (v : ChangeReply) (es : List (List ℕ × ChangeReply)) (id : List ℕ) → Pairwise (λ a b. entry_order a b ≡ Less) es → under id (placed entry_order (k, v) es) ≡ cond (bytes_eq k id) (Some v) (under id es)
under_placed k v es id pairs =
    ap (under id) (sym (inserted-placed (slice_cmp nat_cmp) nat_list_cmp_total exact es k v pairs)) ∙ under_inserted k v es id

pub answer_stands_under_id : AnswerStandsUnderId
answer_stands_under_id note notes id pairs =
    ap (under id) (adds_own note notes) ∙ under_placed note.id note.answer (answers_of note.user notes) id (answers_ascend note.user notes pairs)

-- ---- commits keep what is kept valid

few_after : (note : ImportNote) (notes : List ImportNote) → Pairwise NoteBefore notes → length (answers_of note.user notes) + 1 ≤ most_imports → ((user : List ℕ) → length (answers_of user notes) ≤ most_imports) → (user : List ℕ) → length (answers_of user (placed note_order note notes)) ≤ most_imports
few_after note notes pairs room few user =
    elim (cases_Bool (bytes_eq user note.user)) [
      | inl own ↦
          let longer = length-placed entry_order entry_order_total (answer_entry note) (answers_of note.user notes) (answers_ascend note.user notes pairs) in
          rw (same_text user note.user own, adds_own note notes) (omega (arith, longer, room))
      | inr other ↦ rw (keeps_others note notes pairs user (λ same. true≢false (sym (own_text note.user) ∙ ap (λ u. bytes_eq u note.user) (sym same) ∙ other))) (few user)
    ]

pub fitting_commit_keeps_kept : FittingCommitKeepsKept
fitting_commit_keeps_kept kept change None valid fits room =
    let graph = fitting_change_keeps_graph kept.graph change valid.graph fits in
    record { graph = graph.0; limits = graph.1; notes = valid.notes; few = valid.few }
fitting_commit_keeps_kept kept change (Some note) valid fits room =
    let graph = fitting_change_keeps_graph kept.graph change valid.graph fits in
    record {
      graph = graph.0;
      limits = graph.1;
      notes = placed-ascends note_order note_order_total note kept.imports valid.notes;
      few = few_after note kept.imports valid.notes (omega (arith, room.1)) valid.few;
    }
