-- What stands under an id in the entries of an ordered map, before and after a write.
use Rattle.std.proofs.Common.{◌≡◌, ◌≢◌, ℕ, Bool, true, false, cond, List, [], ◌∷◌, Option, Some, None, refl, sym, ap, ◌∙◌, ⊎_elim}
use Rattle.std.specs.Str.{bytes_eq}
use Rattle.std.specs.Ordering.{nat_cmp, is_eq}
use Rattle.std.specs.Cmp.Lexicographic.{slice_cmp, bytes_decides}
use Rattle.std.specs.Option.{unwrap_or, is_some, IsSome}
use Rattle.std.specs.Map.{lookup, set_value}
use Rattle.std.proofs.lemmas.Bool.{cases_Bool, false_from_ne_true, true≢false}
use Rattle.graph_model.specs.Projection.{under}
use Rattle.desk_model.specs.State.{UserLists, no_lists}
use Rattle.user_lists.specs.Users.{lists_of, OthersStay}
use Rattle.user_lists.proofs.Kept.{same_id, own_id, lookup-under}

-- whether an id is at another, as an ordered map asks
abbrev pub is_at : List ℕ → List ℕ → Bool
is_at id other = is_eq (slice_cmp nat_cmp id other)

-- entries with a value written under an id
abbrev pub set_under : {A : Type 0} → List ℕ → A → List (List ℕ × A) → List (List ℕ × A)
set_under id value [] = []
set_under id value (entry ∷ entries) = cond (bytes_eq entry.0 id) ((entry.0, value) ∷ entries) (entry ∷ set_under id value entries)

pub set_value-under : {A : Type 0} (id : List ℕ) (value : A) (entries : List (List ℕ × A)) → set_value (is_at id) entries value ≡ set_under id value entries
set_value-under id value [] = refl
set_value-under id value (entry ∷ entries) =
    ap (λ b. cond b ((entry.0, value) ∷ entries) (entry ∷ set_value (is_at id) entries value)) (same_id id entry.0)
    ∙ ap (λ rest. cond (bytes_eq entry.0 id) ((entry.0, value) ∷ entries) (entry ∷ rest)) (set_value-under id value entries)

-- ids that are the same are equal
equal_ids : (id other : List ℕ) → bytes_eq id other ≡ true → id ≡ other
equal_ids id other same = (bytes_decides id other).0 same

pub differing_ids : (id other : List ℕ) → other ≢ id → bytes_eq id other ≡ false
differing_ids id other apart = false_from_ne_true (bytes_eq id other) (λ same. apart (sym (equal_ids id other same)))

-- what is written under an id stands there
pub under-set : {A : Type 0} (id : List ℕ) (value : A) (entries : List (List ℕ × A)) → IsSome (under id entries) → under id (set_under id value entries) ≡ Some value
under-set id value [] there = absurd (true≢false (sym there))
under-set id value (entry ∷ entries) there =
    ⊎_elim
    (λ (same : bytes_eq entry.0 id ≡ true). rw (same, same) refl)
    (λ (differs : bytes_eq entry.0 id ≡ false). rw (differs, differs) (under-set id value entries (rw differs at there)))
    (cases_Bool (bytes_eq entry.0 id))

-- and what stands under another id stays
pub under-set_other : {A : Type 0} (id other : List ℕ) (value : A) (entries : List (List ℕ × A)) → other ≢ id → under other (set_under id value entries) ≡ under other entries
under-set_other id other value [] apart = refl
under-set_other id other value (entry ∷ entries) apart =
    ⊎_elim
    (λ (same : bytes_eq entry.0 id ≡ true).
    let differs : bytes_eq entry.0 other ≡ false = rw (equal_ids entry.0 id same) (differing_ids id other apart) in
    rw same (rw differs refl))
    (λ (differs : bytes_eq entry.0 id ≡ false).
    rw differs (ap (λ rest. cond (bytes_eq entry.0 other) (Some entry.1) rest) (under-set_other id other value entries apart)))
    (cases_Bool (bytes_eq entry.0 id))

-- ---- the lists of users

-- where there are lists for a user, those that are written are theirs, and all others stay
pub own_written : (user : List ℕ) (lists : UserLists) (users : List (List ℕ × UserLists)) → IsSome (under user users) → lists_of (set_value (is_at user) users lists) user ≡ lists
own_written user lists users there =
    ap (λ all. lists_of all user) (set_value-under user lists users) ∙ ap (λ found. unwrap_or found no_lists) (under-set user lists users there)

pub others_written : (user : List ℕ) (lists : UserLists) (users : List (List ℕ × UserLists)) → OthersStay user users (set_value (is_at user) users lists)
others_written user lists users other apart =
    ap (λ all. lists_of all other) (set_value-under user lists users) ∙ ap (λ found. unwrap_or found no_lists) (under-set_other user other lists users apart)

pub there_written : (user : List ℕ) (lists : UserLists) (users : List (List ℕ × UserLists)) → IsSome (under user users) → IsSome (under user (set_value (is_at user) users lists))
there_written user lists users there =
    rw (set_value-under user lists users) (rw (under-set user lists users there) refl)

-- a user for whom nothing is found isn't there
pub not_there : (user : List ℕ) (users : List (List ℕ × UserLists)) → None ≡ lookup (is_at user) users → under user users ≡ None
not_there user users none = sym (lookup-under user users) ∙ sym none

pub there_or_not : (user : List ℕ) (users : List (List ℕ × UserLists)) → None ≡ lookup (is_at user) users → IsSome (under user users) → ⊥
there_or_not user users none there = true≢false (sym (rw (not_there user users none) at there))

-- a user who wasn't there has empty lists now, and had them before
pub new_user : (user other : List ℕ) (before after : List (List ℕ × UserLists)) → lookup (is_at user) before ≡ None → lookup (is_at user) after ≡ Some no_lists → ((q : List ℕ) → is_at user q ≡ false → lookup (is_at q) after ≡ lookup (is_at q) before) → lists_of after other ≡ lists_of before other
new_user user other before after none new others =
    ⊎_elim
    (λ (same : bytes_eq other user ≡ true).
    let is_user : other ≡ user = equal_ids other user same in
    rw is_user (rw (sym (lookup-under user after) ∙ new) (rw (sym (lookup-under user before) ∙ none) refl)))
    (λ (differs : bytes_eq other user ≡ false).
    ap (λ found. unwrap_or found no_lists) (sym (lookup-under other after) ∙ others other (same_id user other ∙ differs) ∙ lookup-under other before))
    (cases_Bool (bytes_eq other user))

-- a user for whom lists are found is there
pub there : (user : List ℕ) (lists : UserLists) (users : List (List ℕ × UserLists)) → Some lists ≡ lookup (is_at user) users → IsSome (under user users)
there user lists users found = rw (sym (lookup-under user users) ∙ sym found) refl

pub there_by_test : (user : List ℕ) (users : List (List ℕ × UserLists)) → true ≡ is_some (lookup (is_at user) users) → IsSome (under user users)
there_by_test user users found = ap is_some (sym (lookup-under user users)) ∙ sym found

pub not_there_by_test : (user : List ℕ) (users : List (List ℕ × UserLists)) → false ≡ is_some (lookup (is_at user) users) → lookup (is_at user) users ≡ None
not_there_by_test user users missing = none_of (lookup (is_at user) users) (sym missing)
  where
    none_of : (found : Option UserLists) → is_some found ≡ false → found ≡ None
    none_of None none = refl
    none_of (Some x) none = absurd (true≢false none)
