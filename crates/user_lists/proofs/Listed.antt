-- What is kept of a user, as the machine's state has it.
use Rattle.std.proofs.Common.{◌≡◌, ℕ, ◌+◌, ◌<◌, ◌≤◌, Bool, true, false, cond, nat_lt, List, [], ◌∷◌, ◌++◌, length, get_or, Option, Some, None, Bor, option_copied, refl, sym, ap, ◌∙◌, subst}
use Rattle.std.specs.List.{find, list_any, position, remove, slice_set}
use Rattle.std.specs.Option.{option_map, is_some}
use Rattle.std.proofs.lemmas.Bool.{cond-true, cond-false, le-ltb, lt-ltb}
use Rattle.graph_model.specs.declared.change.ChangeReply.{ChangeReply}
use Rattle.graph_model.specs.declared.refusal.Refusal.{Refusal}
use Rattle.graph_model.specs.declared.refusal.Refusal.TheVariants.{GraphExists, TooManyGraphs, NoSuchJob}
use Rattle.graph_model.specs.Lists.{first_there}
use Rattle.graph_model.specs.Projection.{under}
use Rattle.user_catalog.specs.declared.entry.Entry.{Entry}
use Rattle.user_catalog.specs.Catalog.{NamedGraphs, named_graphs, name_taken, graphs_spent, most_graphs}
use Rattle.user_catalog.proofs.Mapped.{under-mapped, length-mapped}
use Rattle.desk_model.specs.declared.asked.Event.{Event}
use Rattle.desk_model.specs.declared.asked.Event.TheVariants as event
use Rattle.desk_model.specs.Replies.{PlainReply, There, Asked, Ended, Refused}
use Rattle.desk_model.specs.State.{Job, NamedGraph, UserLists}
use Rattle.desk_model.specs.Jobs.{is_numbered, is_job_named, jobs_without, jobs_asked, asked_to_end, unknown_job}
use Rattle.desk_model.specs.Graphs.{has_graph}
use Rattle.user_lists.specs.Lists.{named, shown}
use Rattle.user_lists.specs.Steps.{IsListStep, part_with}
use Rattle.user_lists.proofs.Steps.{step-done, step-refused, plain-if}
use Rattle.user_lists.proofs.JobPlaces.{IsFirst, first_of, find-at, any-at, without-at, asked-at, nowhere, none-found, without-nowhere}

-- what is found is there
pub some-copied : {T : Type 0} (found : Option (Bor T)) → is_some (option_copied found) ≡ is_some found
some-copied None = refl
some-copied (Some x) = refl

-- what stands under a name is what the catalog has there
pub graph-shown : (catalog : NamedGraphs) (jobs : List Job) (imports : List (List ℕ × ChangeReply)) (last : ℕ) (lists : UserLists) (name : List ℕ) (found : Option Entry) → shown catalog jobs imports last ≡ lists → found ≡ under name catalog.entries → under name lists.graphs ≡ option_map named found
graph-shown catalog jobs imports last lists name found is found_is =
    ap (λ (l : UserLists). under name l.graphs) (sym is) ∙ under-mapped named name catalog.entries ∙ ap (option_map named) (sym found_is)

some-mapped : {A B : Type 0} (f : A → B) (found : Option A) → is_some (option_map f found) ≡ is_some found
some-mapped f None = refl
some-mapped f (Some x) = refl

pub has-shown : (lists : UserLists) (name : List ℕ) (found : Option (Bor Entry)) → under name lists.graphs ≡ option_map named (option_copied found) → is_some found ≡ has_graph name lists
has-shown lists name found is =
    sym (some-copied found) ∙ sym (some-mapped named (option_copied found)) ∙ ap is_some (sym is)

-- there are as many graphs
pub count-shown : (catalog : NamedGraphs) (jobs : List Job) (imports : List (List ℕ × ChangeReply)) (last : ℕ) (lists : UserLists) → shown catalog jobs imports last ≡ lists → length lists.graphs ≡ length catalog.entries
count-shown catalog jobs imports last lists is = ap (λ (l : UserLists). length l.graphs) (sym is) ∙ length-mapped named catalog.entries

-- whether there is a graph
pub exists-step : (lists : UserLists) (name : List ℕ) (found : Bool) → found ≡ has_graph name lists → IsListStep (event.Exists name) lists (There name found) lists
exists-step lists name found is s free = step-done s.caller (event.Exists name) (part_with s lists) (part_with s lists) (There name found) refl refl (ap (There name) is) refl

-- ---- names of graphs and their number

taken-there : {A : Type 0} (name : List ℕ) (found : Option A) → is_some found ≡ true → name_taken name found ≡ Some (GraphExists name)
taken-there name None there = absurd (let clash : false ≡ true = there in cc)
taken-there name (Some x) there = refl

taken-free : {A : Type 0} (name : List ℕ) (found : Option A) → is_some found ≡ false → name_taken name found ≡ None
taken-free name None free = refl
taken-free name (Some x) free = absurd (let clash : true ≡ false = free in cc)

pub name-there : (lists : UserLists) (name : List ℕ) (found : Bool) → found ≡ has_graph name lists → found ≡ true → first_there (name_taken name (under name lists.graphs)) (graphs_spent (length lists.graphs)) ≡ Some (GraphExists name)
name-there lists name found is there =
    ap (λ (taken : Option Refusal). first_there taken (graphs_spent (length lists.graphs))) (taken-there name (under name lists.graphs) (sym is ∙ there))

pub name-free : (lists : UserLists) (name : List ℕ) (found : Bool) → found ≡ has_graph name lists → found ≡ false → first_there (name_taken name (under name lists.graphs)) (graphs_spent (length lists.graphs)) ≡ graphs_spent (length lists.graphs)
name-free lists name found is free =
    ap (λ (taken : Option Refusal). first_there taken (graphs_spent (length lists.graphs))) (taken-free name (under name lists.graphs) (sym is ∙ free))

pub first-of-three : (a b c : Option Refusal) (why : Refusal) → first_there a b ≡ Some why → first_there a (first_there b c) ≡ Some why
first-of-three None (Some x) c why is = is
first-of-three None None c why is = absurd cc
first-of-three (Some x) b c why is = is

pub behind-two : (a b c : Option Refusal) → first_there a b ≡ None → first_there a (first_there b c) ≡ c
behind-two None None c is = refl
behind-two None (Some x) c is = absurd cc
behind-two (Some x) b c is = absurd cc

-- ---- jobs

-- the job of a name is asked to end
pub terminate-step : (lists new : UserLists) (name : List ℕ) (jobs : List Job) (place : ℕ) (d : Job) → lists.jobs ≡ jobs → position (is_job_named name) jobs ≡ Some place → new ≡ record lists { jobs = slice_set jobs place (asked_to_end (get_or jobs place d)) } → IsListStep (event.Terminate name) lists (Asked name) new
terminate-step lists new name jobs place d are found is s free =
    let first = first_of (is_job_named name) jobs place d found in
    let any : list_any (is_job_named name) lists.jobs ≡ true = ap (list_any (is_job_named name)) are ∙ any-at (is_job_named name) jobs place d first in
    step-done s.caller (event.Terminate name) (part_with s lists) (part_with s new) (Asked name)
    (cond-true (list_any (is_job_named name) lists.jobs) None (Some (NoSuchJob name)) any) refl refl
    (ap (part_with s) (is ∙ ap (λ (js : List Job). record lists { jobs = js }) (sym (asked-at name jobs place d first) ∙ ap (jobs_asked name) (sym are))))

-- there is no job of a name
pub no_job-step : (lists : UserLists) (name : List ℕ) (jobs : List Job) → lists.jobs ≡ jobs → position (is_job_named name) jobs ≡ None → IsListStep (event.Terminate name) lists (Refused (NoSuchJob name)) lists
no_job-step lists name jobs are none s free =
    let any : list_any (is_job_named name) lists.jobs ≡ false =
    ap (list_any (is_job_named name)) are ∙ none-found (is_job_named name) jobs (nowhere (is_job_named name) jobs none) in
    step-refused s.caller (event.Terminate name) (part_with s lists) (part_with s lists) (NoSuchJob name)
    (plain-if (list_any (is_job_named name) lists.jobs) (NoSuchJob name) refl)
    (cond-false (list_any (is_job_named name) lists.jobs) None (Some (NoSuchJob name)) any) refl

-- a job goes, where it is there
pub without-there : (lists : UserLists) (number : ℕ) (jobs : List Job) (place : ℕ) (d : Job) → lists.jobs ≡ jobs → position (is_numbered number) jobs ≡ Some place → remove jobs place ≡ jobs_without number lists.jobs
without-there lists number jobs place d are found =
    sym (without-at number jobs place d (first_of (is_numbered number) jobs place d found)) ∙ ap (jobs_without number) (sym are)

pub abandon-step : (lists new : UserLists) (number : ℕ) → new ≡ record lists { jobs = jobs_without number lists.jobs } → IsListStep (event.Abandon number) lists Ended new
abandon-step lists new number is s free = step-done s.caller (event.Abandon number) (part_with s lists) (part_with s new) Ended refl refl refl (ap (part_with s) is)

-- ---- room

pub room-spent : (count : ℕ) → most_graphs ≤ count → graphs_spent count ≡ Some (TooManyGraphs 64)
room-spent count full = cond-false (nat_lt count most_graphs) None (Some (TooManyGraphs most_graphs)) (le-ltb count most_graphs full)

pub room-left : (count : ℕ) → count < most_graphs → graphs_spent count ≡ None
room-left count room = cond-true (nat_lt count most_graphs) None (Some (TooManyGraphs most_graphs)) (lt-ltb count most_graphs room)
