-- What is found after a call, and the versions that calls give.
use Rattle.std.proofs.Common.{◌≡◌, ◌≢◌, ℕ, ◌+◌, ◌<◌, Bool, true, false, cond, List, [], ◌∷◌, ◌++◌, Option, Some, None, refl, sym, ap, ◌∙◌, subst, nat_lt, length, ⊎_elim, arith}
use Rattle.std.specs.List.{AllByRecursion}
use Rattle.std.specs.Str.{bytes_eq}
use Rattle.std.specs.Ordering.{nat_cmp, ordering_reverse}
use Rattle.std.specs.Cmp.Lexicographic.{slice_cmp, bytes_decides, nat_list_cmp_total}
use Rattle.std.specs.declared.cmp.Ordering.TheVariants.{Less, Greater}
use Rattle.std.proofs.lemmas.Bool.{cases_Bool, cond-true, cond-false, false_from_ne_true, ltb-true}
use Rattle.graph_model.specs.declared.refusal.Refusal.{Refusal}
use Rattle.graph_model.specs.declared.refusal.Refusal.TheVariants.{TooManyGraphs}
use Rattle.graph_model.specs.declared.graph.Column.{Column}
use Rattle.graph_model.specs.Lists.{Pairwise, first_there}
use Rattle.graph_model.specs.Names.{IsBefore}
use Rattle.graph_model.specs.Projection.{under}
use Rattle.graph_model.proofs.ListLemmas.{All-map_fact, first_there-none}
use Rattle.user_catalog.specs.declared.entry.Entry.{Entry}
use Rattle.user_catalog.specs.Catalog.{NamedGraphs, most_graphs, is_named, is_behind, inserted, removed, wider, widened, name_taken, graphs_spent, versions_spent, refused_insert, after_insert, after_remove, refused_column, after_column, next_entry, ComesBefore, IsCatalog}
use Rattle.user_catalog.specs.Laws.{InsertGraph, RemoveGraph, AddColumn, unless_refused, given_unless, versions_given, ChangesKeepCatalog, NextVersionIsNew, VersionsAscend, InsertedIsFound, RemovedIsGone, WidenedIsFound, OthersStay}
use Rattle.user_catalog.proofs.Valid.{not_first, not_behind, catalog-inserted, catalog-removed, catalog-widened}

-- ---- names

own_name : (name : List ℕ) → bytes_eq name name ≡ true
own_name name = (bytes_decides name name).1 refl

-- an entry of one name isn't of another
other_entry : (name other : List ℕ) (e : List ℕ × Entry) → other ≢ name → is_named name e ≡ true → is_named other e ≡ false
other_entry name other e apart named =
    false_from_ne_true (is_named other e) (λ same. apart (sym ((bytes_decides e.0 other).0 same) ∙ (bytes_decides e.0 name).0 named))

other_name : (name other : List ℕ) → other ≢ name → bytes_eq name other ≡ false
other_name name other apart = false_from_ne_true (bytes_eq name other) (λ same. apart (sym ((bytes_decides name other).0 same)))

-- no name comes before itself
not_before_itself : (name : List ℕ) → IsBefore name name → ⊥
not_before_itself name before =
    let turned : slice_cmp nat_cmp name name ≡ ordering_reverse (slice_cmp nat_cmp name name) = nat_list_cmp_total.antisymm name name in
    let clash : Less ≡ Greater = sym before ∙ turned ∙ ap ordering_reverse before in
    cc

-- ---- what is found

found-inserted : (name : List ℕ) (entry : Entry) (entries : List (List ℕ × Entry)) → under name entries ≡ None → under name (inserted name entry entries) ≡ Some entry
found-inserted name entry [] none = cond-true (bytes_eq name name) (Some entry) None (own_name name)
found-inserted name entry (e ∷ entries) none =
    elim (is_behind name e) as (λ b. under name (cond b ((name, entry) ∷ e ∷ entries) (e ∷ inserted name entry entries)) ≡ Some entry) [
      | true ↦ cond-true (bytes_eq name name) (Some entry) (under name (e ∷ entries)) (own_name name)
      | false ↦ cond-false (is_named name e) (Some e.1) (under name (inserted name entry entries)) (not_first name e entries none)
          ∙ found-inserted name entry entries (not_behind name e entries none)
    ]

other-inserted : (name other : List ℕ) (entry : Entry) (entries : List (List ℕ × Entry)) → other ≢ name → under other (inserted name entry entries) ≡ under other entries
other-inserted name other entry [] apart = cond-false (bytes_eq name other) (Some entry) None (other_name name other apart)
other-inserted name other entry (e ∷ entries) apart =
    elim (is_behind name e) as (λ b. under other (cond b ((name, entry) ∷ e ∷ entries) (e ∷ inserted name entry entries)) ≡ under other (e ∷ entries)) [
      | true ↦ cond-false (bytes_eq name other) (Some entry) (under other (e ∷ entries)) (other_name name other apart)
      | false ↦ ap (λ (rest : Option Entry). cond (is_named other e) (Some e.1) rest) (other-inserted name other entry entries apart)
    ]

-- a name stands nowhere behind its entry
absent-behind : (name : List ℕ) (e : List ℕ × Entry) (entries : List (List ℕ × Entry)) → is_named name e ≡ true → AllByRecursion (ComesBefore e) entries → under name entries ≡ None
absent-behind name e [] named later = refl
absent-behind name e (x ∷ entries) named later =
    let other : is_named name x ≡ false =
    false_from_ne_true (is_named name x)
    (λ same. not_before_itself name (ap (λ (a : List ℕ). slice_cmp nat_cmp a name) (sym ((bytes_decides e.0 name).0 named)) ∙ ap (slice_cmp nat_cmp e.0) (sym ((bytes_decides x.0 name).0 same)) ∙ later.0)) in
    cond-false (is_named name x) (Some x.1) (under name entries) other ∙ absent-behind name e entries named later.1

gone-removed : (name : List ℕ) (entries : List (List ℕ × Entry)) → Pairwise ComesBefore entries → under name (removed name entries) ≡ None
gone-removed name [] up = refl
gone-removed name (e ∷ entries) up =
    ⊎_elim
    (λ (named : is_named name e ≡ true). ap (under name) (cond-true (is_named name e) entries (e ∷ removed name entries) named) ∙ absent-behind name e entries named up.0)
    (λ (other : is_named name e ≡ false).
    ap (under name) (cond-false (is_named name e) entries (e ∷ removed name entries) other)
    ∙ cond-false (is_named name e) (Some e.1) (under name (removed name entries)) other
    ∙ gone-removed name entries up.1)
    (cases_Bool (is_named name e))

other-removed : (name other : List ℕ) (entries : List (List ℕ × Entry)) → other ≢ name → under other (removed name entries) ≡ under other entries
other-removed name other [] apart = refl
other-removed name other (e ∷ entries) apart =
    ⊎_elim
    (λ (named : is_named name e ≡ true).
    ap (under other) (cond-true (is_named name e) entries (e ∷ removed name entries) named)
    ∙ sym (cond-false (is_named other e) (Some e.1) (under other entries) (other_entry name other e apart named)))
    (λ (differs : is_named name e ≡ false).
    ap (under other) (cond-false (is_named name e) entries (e ∷ removed name entries) differs)
    ∙ ap (λ (rest : Option Entry). cond (is_named other e) (Some e.1) rest) (other-removed name other entries apart))
    (cases_Bool (is_named name e))

found-widened : (name key : List ℕ) (column : Column) (entry : Entry) (entries : List (List ℕ × Entry)) → under name entries ≡ Some entry → under name (widened name key column entries) ≡ Some (wider key column entry)
found-widened name key column entry [] found = absurd cc
found-widened name key column entry (e ∷ entries) found =
    ⊎_elim
    (λ (named : is_named name e ≡ true).
    let here : Some e.1 ≡ Some entry = sym (cond-true (is_named name e) (Some e.1) (under name entries) named) ∙ found in
    let same : e.1 ≡ entry = cc in
    ap (under name) (cond-true (is_named name e) ((e.0, wider key column e.1) ∷ entries) (e ∷ widened name key column entries) named)
    ∙ cond-true (is_named name e) (Some (wider key column e.1)) (under name entries) named
    ∙ ap (λ (x : Entry). Some (wider key column x)) same)
    (λ (other : is_named name e ≡ false).
    ap (under name) (cond-false (is_named name e) ((e.0, wider key column e.1) ∷ entries) (e ∷ widened name key column entries) other)
    ∙ cond-false (is_named name e) (Some e.1) (under name (widened name key column entries)) other
    ∙ found-widened name key column entry entries (sym (cond-false (is_named name e) (Some e.1) (under name entries) other) ∙ found))
    (cases_Bool (is_named name e))

other-widened : (name other key : List ℕ) (column : Column) (entries : List (List ℕ × Entry)) → other ≢ name → under other (widened name key column entries) ≡ under other entries
other-widened name other key column [] apart = refl
other-widened name other key column (e ∷ entries) apart =
    ⊎_elim
    (λ (named : is_named name e ≡ true).
    let differs : is_named other e ≡ false = other_entry name other e apart named in
    ap (under other) (cond-true (is_named name e) ((e.0, wider key column e.1) ∷ entries) (e ∷ widened name key column entries) named)
    ∙ cond-false (is_named other e) (Some (wider key column e.1)) (under other entries) differs
    ∙ sym (cond-false (is_named other e) (Some e.1) (under other entries) differs))
    (λ (differs : is_named name e ≡ false).
    ap (under other) (cond-false (is_named name e) ((e.0, wider key column e.1) ∷ entries) (e ∷ widened name key column entries) differs)
    ∙ ap (λ (rest : Option Entry). cond (is_named other e) (Some e.1) rest) (other-widened name other key column entries apart))
    (cases_Bool (is_named name e))

pub inserted_is_found : InsertedIsFound
inserted_is_found c name graph none = found-inserted name (next_entry c graph) c.entries none

pub removed_is_gone : RemovedIsGone
removed_is_gone c name is = gone-removed name c.entries is.ascending

pub widened_is_found : WidenedIsFound
widened_is_found c name key column entry found = found-widened name key column entry c.entries found

pub others_stay : OthersStay
others_stay c name other apart = record {
  insert = λ graph. other-inserted name other (next_entry c graph) c.entries apart;
  remove = other-removed name other c.entries apart;
  column = λ key column. other-widened name other key column c.entries apart;
}

-- ---- what holds at every moment, and versions

-- a name that isn't taken stands under nothing
free : (name : List ℕ) (found : Option Entry) → name_taken name found ≡ None → found ≡ None
free name None none = refl
free name (Some entry) none = absurd cc

-- there is room where the graphs aren't spent
has_room : (b : Bool) (why : Refusal) → cond b None (Some why) ≡ None → b ≡ true
has_room true why none = refl
has_room false why none = absurd cc

kept_unless : (why : Option Refusal) (c after : NamedGraphs) → (why ≡ None → IsCatalog after) → IsCatalog c → IsCatalog (unless_refused why c after)
kept_unless None c after goes is = goes refl
kept_unless (Some why) c after goes is = is

pub changes_keep_catalog : ChangesKeepCatalog
changes_keep_catalog c (InsertGraph name graph) is =
    kept_unless (refused_insert c name) c (after_insert c name graph)
    (λ allowed.
    let first = first_there-none (name_taken name (under name c.entries)) (first_there (graphs_spent (length c.entries)) (versions_spent c.last)) allowed in
    let second = first_there-none (graphs_spent (length c.entries)) (versions_spent c.last) first.1 in
    catalog-inserted c name graph (free name (under name c.entries) first.0)
    (ltb-true (length c.entries) most_graphs (has_room (nat_lt (length c.entries) most_graphs) (TooManyGraphs most_graphs) second.0)) is)
    is
changes_keep_catalog c (RemoveGraph name) is = catalog-removed c name is
changes_keep_catalog c (AddColumn name version key column) is =
    kept_unless (refused_column c name version key) c (after_column c name key column) (λ allowed. catalog-widened c name key column is) is

pub next_version_is_new : NextVersionIsNew
next_version_is_new c is = All-map_fact c.entries (λ e given. omega (arith, given.1)) is.given

-- versions above a number, and ascending
abbrev Ascends : ℕ → List ℕ → Type 0
Ascends last versions = AllByRecursion (λ version. last < version) versions × Pairwise ◌<◌ versions

one_more : (last : ℕ) (versions : List ℕ) → Ascends (last + 1) versions → Ascends last ((last + 1) ∷ versions)
one_more last versions rest =
    ((omega arith, All-map_fact versions (λ v above. omega arith) rest.0), (rest.0, rest.1))

ascend_unless : (why : Option Refusal) (c after : NamedGraphs) (given : NamedGraphs → List ℕ) → after.last ≡ c.last + 1 → ((d : NamedGraphs) → Ascends d.last (given d)) → Ascends c.last (given_unless why (c.last + 1) ++ given (unless_refused why c after))
ascend_unless None c after given next rest =
    one_more c.last (given after) (let P : ℕ → Type 0 = λ last. Ascends last (given after) in subst P next (rest after))
ascend_unless (Some why) c after given next rest = rest c

same_last : (why : Option Refusal) (c after : NamedGraphs) (given : NamedGraphs → List ℕ) → after.last ≡ c.last → ((d : NamedGraphs) → Ascends d.last (given d)) → Ascends c.last (given (unless_refused why c after))
same_last None c after given same rest = let P : ℕ → Type 0 = λ last. Ascends last (given after) in subst P same (rest after)
same_last (Some why) c after given same rest = rest c

pub versions_ascend : VersionsAscend
versions_ascend c [] = (tt, tt)
versions_ascend c (InsertGraph name graph ∷ changes) =
    ascend_unless (refused_insert c name) c (after_insert c name graph) (λ d. versions_given d changes) refl (λ d. versions_ascend d changes)
versions_ascend c (RemoveGraph name ∷ changes) = versions_ascend (after_remove c name) changes
versions_ascend c (AddColumn name version key column ∷ changes) =
    same_last (refused_column c name version key) c (after_column c name key column) (λ d. versions_given d changes) refl (λ d. versions_ascend d changes)
