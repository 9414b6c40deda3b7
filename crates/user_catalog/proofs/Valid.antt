-- Changes keep that names ascend, that versions are distinct and were given, and that there are few graphs.
use Rattle.std.proofs.Common.{◌≡◌, ◌≢◌, ℕ, ◌+◌, ◌<◌, ◌≤◌, true, false, cond, List, [], ◌∷◌, length, refl, sym, ap, ◌∙◌, None, suc, ⊎_elim, arith}
use Rattle.std.specs.List.{AllByRecursion}
use Rattle.std.specs.Prelude.{Result, Ok, Err, OnOk, OnErr}
use Rattle.graph_model.specs.declared.refusal.Refusal.{Refusal}
use Rattle.std.specs.Ordering.{nat_cmp, is_lt, ordering_reverse}
use Rattle.std.specs.Cmp.Lexicographic.{slice_cmp, bytes_decides, nat_list_cmp_total}
use Rattle.std.specs.declared.cmp.Ordering.{Ordering}
use Rattle.std.specs.declared.cmp.Ordering.TheVariants.{Less, Equal, Greater}
use Rattle.std.proofs.lemmas.Bool.{cases_Bool}
use Rattle.std.proofs.lemmas.Map.Lookups.{exact_bytes}
use Rattle.graph_model.specs.declared.graph.Column.{Column}
use Rattle.graph_model.specs.Lists.{Pairwise}
use Rattle.graph_model.specs.Names.{IsBefore}
use Rattle.graph_model.specs.Projection.{under}
use Rattle.graph_model.proofs.ListLemmas.{All-map_fact}
use Rattle.csr_columns.specs.declared.parts.Parts.{Parts}
use Rattle.user_catalog.specs.declared.entry.Entry.{Entry}
use Rattle.user_catalog.specs.Catalog.{NamedGraphs, named_graphs, most_graphs, is_named, is_behind, inserted, removed, wider, widened, next_entry, after_insert, after_remove, after_column, ComesBefore, HasOtherVersion, WasGiven, IsCatalog}

-- ---- the order of names

-- an entry that stands behind a name
behind-yes : {A : Type 0} (name : List ℕ) (e : List ℕ × A) → is_behind name e ≡ true → IsBefore name e.0
behind-yes name e h = less (slice_cmp nat_cmp name e.0) h
  where
    less : (o : Ordering) → is_lt o ≡ true → o ≡ Less
    less Less h = refl
    less Equal h = absurd cc
    less Greater h = absurd cc

-- one that doesn't, and has another name
behind-no : {A : Type 0} (name : List ℕ) (e : List ℕ × A) → is_behind name e ≡ false → is_named name e ≡ false → IsBefore e.0 name
behind-no name e h other = reverse (slice_cmp nat_cmp name e.0) refl h
  where
    reverse : (o : Ordering) → slice_cmp nat_cmp name e.0 ≡ o → is_lt o ≡ false → IsBefore e.0 name
    reverse Less same h = absurd cc
    reverse Equal same h = absurd (let named = (bytes_decides e.0 name).1 (sym (exact_bytes name e.0 same)) in cc)
    reverse Greater same h = nat_list_cmp_total.antisymm e.0 name ∙ ap ordering_reverse same

-- ---- what stands under no name

pub not_first : {A : Type 0} (name : List ℕ) (e : List ℕ × A) (entries : List (List ℕ × A)) → under name (e ∷ entries) ≡ None → is_named name e ≡ false
not_first name e entries none =
    ⊎_elim
    (λ (named : is_named name e ≡ true). absurd (let there = rw named at none in cc))
    (λ (other : is_named name e ≡ false). other)
    (cases_Bool (is_named name e))

pub not_behind : {A : Type 0} (name : List ℕ) (e : List ℕ × A) (entries : List (List ℕ × A)) → under name (e ∷ entries) ≡ None → under name entries ≡ None
not_behind name e entries none = rw (not_first name e entries none) at none

-- ---- an entry more

pub All-inserted : {A : Type 0} (P : List ℕ × A → Type 0) (name : List ℕ) (entry : A) (entries : List (List ℕ × A)) → P (name, entry) → AllByRecursion P entries → AllByRecursion P (inserted name entry entries)
All-inserted P name entry [] here all = (here, tt)
All-inserted P name entry (e ∷ entries) here all =
    elim (is_behind name e) as (λ b. AllByRecursion P (cond b ((name, entry) ∷ e ∷ entries) (e ∷ inserted name entry entries))) [
      | true ↦ (here, all)
      | false ↦ (all.0, All-inserted P name entry entries here all.1)
    ]

length-inserted : (name : List ℕ) (entry : Entry) (entries : List (List ℕ × Entry)) → length (inserted name entry entries) ≡ suc (length entries)
length-inserted name entry [] = refl
length-inserted name entry (e ∷ entries) =
    elim (is_behind name e) as (λ b. length (cond b ((name, entry) ∷ e ∷ entries) (e ∷ inserted name entry entries)) ≡ suc (suc (length entries))) [
      | true ↦ refl
      | false ↦ ap suc (length-inserted name entry entries)
    ]

pub ascending-inserted : {A : Type 0} (name : List ℕ) (entry : A) (entries : List (List ℕ × A)) → under name entries ≡ None → Pairwise ComesBefore entries → Pairwise ComesBefore (inserted name entry entries)
ascending-inserted name entry [] none up = (tt, tt)
ascending-inserted name entry (e ∷ entries) none up =
    ⊎_elim
    (λ (behind : is_behind name e ≡ true).
    let first : IsBefore name e.0 = behind-yes name e behind in
    rw behind ((first, All-map_fact entries (λ later after. nat_list_cmp_total.trans name e.0 later.0 first after) up.0), up))
    (λ (ahead : is_behind name e ≡ false).
    let last : IsBefore e.0 name = behind-no name e ahead (not_first name e entries none) in
    rw ahead (All-inserted (ComesBefore e) name entry entries last up.0, ascending-inserted name entry entries (not_behind name e entries none) up.1))
    (cases_Bool (is_behind name e))

pub Pairwise-inserted : {A : Type 0} (R : List ℕ × A → List ℕ × A → Type 0) (name : List ℕ) (entry : A) (entries : List (List ℕ × A)) → AllByRecursion (R (name, entry)) entries → AllByRecursion (λ e. R e (name, entry)) entries → Pairwise R entries → Pairwise R (inserted name entry entries)
Pairwise-inserted R name entry [] first second pairs = (tt, tt)
Pairwise-inserted R name entry (e ∷ entries) first second pairs =
    elim (is_behind name e) as (λ b. Pairwise R (cond b ((name, entry) ∷ e ∷ entries) (e ∷ inserted name entry entries))) [
      | true ↦ (first, pairs)
      | false ↦ (All-inserted (R e) name entry entries second.0 pairs.0, Pairwise-inserted R name entry entries first.1 second.1 pairs.1)
    ]

pub catalog-inserted : (c : NamedGraphs) (name : List ℕ) (graph : Parts) → under name c.entries ≡ None → length c.entries < most_graphs → IsCatalog c → IsCatalog (after_insert c name graph)
catalog-inserted c name graph none room is = record {
  ascending = ascending-inserted name (next_entry c graph) c.entries none is.ascending;
  distinct = Pairwise-inserted HasOtherVersion name (next_entry c graph) c.entries
      (All-map_fact c.entries (λ e given same. omega (arith, given.0, given.1, same)) is.given)
      (All-map_fact c.entries (λ e given same. omega (arith, given.0, given.1, same)) is.given) is.distinct;
  given = All-inserted (WasGiven (c.last + 1)) name (next_entry c graph) c.entries (omega arith, omega arith)
      (All-map_fact c.entries (λ e given. (given.0, omega (arith, given.1))) is.given);
  few = omega (arith, length-inserted name (next_entry c graph) c.entries);
}

-- ---- an entry less

pub All-removed : {A : Type 0} (P : List ℕ × A → Type 0) (name : List ℕ) (entries : List (List ℕ × A)) → AllByRecursion P entries → AllByRecursion P (removed name entries)
All-removed P name [] all = tt
All-removed P name (e ∷ entries) all =
    elim (is_named name e) as (λ b. AllByRecursion P (cond b entries (e ∷ removed name entries))) [
      | true ↦ all.1
      | false ↦ (all.0, All-removed P name entries all.1)
    ]

pub Pairwise-removed : {A : Type 0} (R : List ℕ × A → List ℕ × A → Type 0) (name : List ℕ) (entries : List (List ℕ × A)) → Pairwise R entries → Pairwise R (removed name entries)
Pairwise-removed R name [] pairs = tt
Pairwise-removed R name (e ∷ entries) pairs =
    elim (is_named name e) as (λ b. Pairwise R (cond b entries (e ∷ removed name entries))) [
      | true ↦ pairs.1
      | false ↦ (All-removed (R e) name entries pairs.0, Pairwise-removed R name entries pairs.1)
    ]

length-removed : (name : List ℕ) (entries : List (List ℕ × Entry)) → length (removed name entries) ≤ length entries
length-removed name [] = omega arith
length-removed name (e ∷ entries) =
    elim (is_named name e) as (λ b. length (cond b entries (e ∷ removed name entries)) ≤ suc (length entries)) [
      | true ↦ omega arith
      | false ↦ omega (arith, length-removed name entries)
    ]

pub catalog-removed : (c : NamedGraphs) (name : List ℕ) → IsCatalog c → IsCatalog (after_remove c name)
catalog-removed c name is = record {
  ascending = Pairwise-removed ComesBefore name c.entries is.ascending;
  distinct = Pairwise-removed HasOtherVersion name c.entries is.distinct;
  given = All-removed (WasGiven c.last) name c.entries is.given;
  few = omega (arith, length-removed name c.entries, is.few);
}

-- ---- a column more

-- what holds of an entry holds of it with one more column
All-widened : (P : List ℕ × Entry → Type 0) (name key : List ℕ) (column : Column) (entries : List (List ℕ × Entry)) → ((e : List ℕ × Entry) → P e → P (e.0, wider key column e.1)) → AllByRecursion P entries → AllByRecursion P (widened name key column entries)
All-widened P name key column [] kept all = tt
All-widened P name key column (e ∷ entries) kept all =
    elim (is_named name e) as (λ b. AllByRecursion P (cond b ((e.0, wider key column e.1) ∷ entries) (e ∷ widened name key column entries))) [
      | true ↦ (kept e all.0, all.1)
      | false ↦ (all.0, All-widened P name key column entries kept all.1)
    ]

Pairwise-widened : (R : List ℕ × Entry → List ℕ × Entry → Type 0) (name key : List ℕ) (column : Column) (entries : List (List ℕ × Entry)) → ((a b : List ℕ × Entry) → R a b → R (a.0, wider key column a.1) b) → ((a b : List ℕ × Entry) → R a b → R a (b.0, wider key column b.1)) → Pairwise R entries → Pairwise R (widened name key column entries)
Pairwise-widened R name key column [] first second pairs = tt
Pairwise-widened R name key column (e ∷ entries) first second pairs =
    elim (is_named name e) as (λ b. Pairwise R (cond b ((e.0, wider key column e.1) ∷ entries) (e ∷ widened name key column entries))) [
      | true ↦ (All-map_fact entries (λ other related. first e other related) pairs.0, pairs.1)
      | false ↦ (All-widened (R e) name key column entries (second e) pairs.0, Pairwise-widened R name key column entries first second pairs.1)
    ]

length-widened : (name key : List ℕ) (column : Column) (entries : List (List ℕ × Entry)) → length (widened name key column entries) ≡ length entries
length-widened name key column [] = refl
length-widened name key column (e ∷ entries) =
    elim (is_named name e) as (λ b. length (cond b ((e.0, wider key column e.1) ∷ entries) (e ∷ widened name key column entries)) ≡ suc (length entries)) [
      | true ↦ refl
      | false ↦ ap suc (length-widened name key column entries)
    ]

pub catalog-widened : (c : NamedGraphs) (name key : List ℕ) (column : Column) → IsCatalog c → IsCatalog (after_column c name key column)
catalog-widened c name key column is = record {
  ascending = Pairwise-widened ComesBefore name key column c.entries (λ a b related. related) (λ a b related. related) is.ascending;
  distinct = Pairwise-widened HasOtherVersion name key column c.entries (λ a b related. related) (λ a b related. related) is.distinct;
  given = All-widened (WasGiven c.last) name key column c.entries (λ e was. was) is.given;
  few = omega (arith, length-widened name key column c.entries, is.few);
}

-- the same of a column that is added or refused
pub catalog-if_widened : (last : ℕ) (entries after : List (List ℕ × Entry)) (name key : List ℕ) (column : Column) (r : Result (Unit {0}) Refusal) → OnOk r (after ≡ widened name key column entries) → OnErr r (after ≡ entries) → IsCatalog (named_graphs entries last) → IsCatalog (named_graphs after last)
catalog-if_widened last entries after name key column (Ok u) wide same is = rw wide (catalog-widened (named_graphs entries last) name key column is)
catalog-if_widened last entries after name key column (Err why) wide same is = rw same is
