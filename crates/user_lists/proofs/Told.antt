-- What is told of graphs, and graphs that are dropped.
use Rattle.std.proofs.Common.{◌≡◌, ℕ, ◌&&◌, Bool, true, false, cond, not, List, [], ◌∷◌, length, map, take, Option, Some, None, Result, Ok, Err, IfOk, refl, sym, ap, ◌∙◌, subst}
use Rattle.std.specs.List.{range_with_len}
use Rattle.std.specs.Option.{option_map, is_some, is_none}
use Rattle.std.proofs.lemmas.List.FromFn.{length-map-range_with_len}
use Rattle.std.proofs.lemmas.Bool.{cond-true, cond-false}
use Rattle.graph_model.specs.declared.change.ChangeReply.{ChangeReply}
use Rattle.graph_model.specs.declared.memory.Mem.{Mem as TheMem}
use Rattle.graph_model.specs.declared.refusal.Refusal.{Refusal}
use Rattle.graph_model.specs.declared.refusal.Refusal.TheVariants.{NoSuchGraph}
use Rattle.graph_model.specs.Lists.{first_there}
use Rattle.graph_model.specs.Projection.{projected_arc_count, under}
use Rattle.csr_columns.specs.declared.parts.Parts.{Parts}
use Rattle.csr_columns.specs.Parts.{arcs_in}
use Rattle.csr_columns.specs.Plain.{plain, plain_node}
use Rattle.csr_columns.proofs.Counted.{types-count}
use Rattle.user_catalog.specs.declared.entry.Entry.{Entry}
use Rattle.user_catalog.specs.Catalog.{NamedGraphs, removed, after_remove}
use Rattle.user_catalog.proofs.Mapped.{under-mapped, removed-mapped}
use Rattle.desk_model.specs.declared.asked.Event.TheVariants as event
use Rattle.desk_model.specs.declared.lines.GraphLine.{GraphLine}
use Rattle.desk_model.specs.Replies.{Graphs, Refused}
use Rattle.desk_model.specs.State.{Job, NamedGraph, UserLists}
use Rattle.desk_model.specs.Graphs.{graph_line, entry_line, found_lines, chosen_lines, has_graph, refused_drop, without_graph}
use Rattle.user_lists.specs.Lists.{named, named_graphs, shown}
use Rattle.user_lists.specs.Steps.{IsListStep, lines_reply, part_with}
use Rattle.user_lists.proofs.Steps.{step-done, step-refused, step-memory, IsPlain}

-- the line of a graph in columns
pub line-is : (job : Option (List ℕ)) (name : List ℕ) (version nodes arcs : ℕ) (keys : List (List ℕ)) (parts : Parts) → nodes ≡ length parts.ids → arcs ≡ arcs_in parts.types → keys ≡ (plain parts).keys → (record { name = name; nodes = nodes; arcs = arcs; version = version; keys = keys; job = job }) ≡ graph_line job name (record { version = version; graph = plain parts })
line-is job name version nodes arcs keys parts nodes_are arcs_are keys_are =
    let line : ℕ → ℕ → List (List ℕ) → GraphLine = λ n a k. record { name = name; nodes = n; arcs = a; version = version; keys = k; job = job } in
    ap (λ (n : ℕ). line n arcs keys) (nodes_are ∙ sym (length-map-range_with_len (plain_node parts) 0 (length parts.ids)))
    ∙ ap (λ (a : ℕ). line (length (plain parts).nodes) a keys) (arcs_are ∙ sym (types-count parts.ids parts.types))
    ∙ ap (λ (k : List (List ℕ)). line (length (plain parts).nodes) (projected_arc_count (plain parts)) k) keys_are

-- what is told of a graph in another version
pub line-version : (job : Option (List ℕ)) (name : List ℕ) (version other : ℕ) (parts : Parts) (line : GraphLine) → line ≡ graph_line job name (record { version = other; graph = plain parts }) → (record line { version = version }) ≡ graph_line job name (record { version = version; graph = plain parts })
line-version job name version other parts line is = ap (λ (l : GraphLine). record l { version = version }) is

-- what is told of an entry in columns
abbrev pub told_line : List ℕ × Entry → GraphLine
told_line entry = graph_line None entry.0 (named entry.1)

pub lines-told : (entries : List (List ℕ × Entry)) → map told_line entries ≡ map entry_line (named_graphs entries)
lines-told [] = refl
lines-told (entry ∷ entries) = ap (λ rest. told_line entry ∷ rest) (lines-told entries)

-- graphs are told
pub list-step : (lists : UserLists) (name : Option (List ℕ)) (made : Result (List GraphLine) TheMem) → IfOk made (λ lines. lines ≡ chosen_lines name lists) → (of : Option (List ℕ)) → IsListStep (event.List name of) lists (lines_reply made) lists
list-step lists name (Ok lines) is of s free = step-done s.caller (event.List name of) (part_with s lists) (part_with s lists) (Graphs lines) free refl (ap Graphs is) refl
list-step lists name (Err none) is of s free = step-memory s.caller (event.List name of) (part_with s lists) refl

pub if-ok-as : {A E : Type 0} (made : Result A E) (x y : A) → x ≡ y → IfOk made (λ lines. lines ≡ x) → IfOk made (λ lines. lines ≡ y)
if-ok-as (Ok lines) x y same is = is ∙ same
if-ok-as (Err e) x y same is = is

-- a graph that must be there isn't dropped where there is none
pub drop-refused : (lists : UserLists) (name : List ℕ) (must : Bool) → must ≡ true → has_graph name lists ≡ false → (of : Option (List ℕ)) → IsListStep (event.Drop name must of) lists (Refused (NoSuchGraph name)) lists
drop-refused lists name must asked none of s free =
    let both : (must && not (has_graph name lists)) ≡ true = ap (λ (b : Bool). b && not (has_graph name lists)) asked ∙ ap not none in
    let refused =
    ap (λ (why : Option Refusal). first_there why (refused_drop name must lists)) free
    ∙ cond-true (must && not (has_graph name lists)) (Some (NoSuchGraph name)) None both in
    step-refused s.caller (event.Drop name must of) (part_with s lists) (part_with s lists) (NoSuchGraph name)
    (subst IsPlain (sym refused) refl) refused refl

pub drop-allowed : (lists : UserLists) (name : List ℕ) (must : Bool) → (must && not (has_graph name lists)) ≡ false → refused_drop name must lists ≡ None
drop-allowed lists name must none = cond-false (must && not (has_graph name lists)) (Some (NoSuchGraph name)) None none

and-false-left : (a b : Bool) → a ≡ false → (a && b) ≡ false
and-false-left a b is = ap (λ (x : Bool). x && b) is

pub may-go : (lists : UserLists) (name : List ℕ) (must : Bool) → must ≡ false → refused_drop name must lists ≡ None
may-go lists name must is = drop-allowed lists name must (and-false-left must (not (has_graph name lists)) is)

and-false-right : (a b : Bool) → b ≡ false → (a && b) ≡ false
and-false-right true b is = is
and-false-right false b is = refl

pub is-there : (lists : UserLists) (name : List ℕ) (must : Bool) → not (has_graph name lists) ≡ false → refused_drop name must lists ≡ None
is-there lists name must is = drop-allowed lists name must (and-false-right must (not (has_graph name lists)) is)

-- a graph is dropped
pub drop-step : (lists new : UserLists) (name : List ℕ) (must : Bool) (lines : List GraphLine) → refused_drop name must lists ≡ None → lines ≡ found_lines name (under name lists.graphs) → new ≡ without_graph name lists → (of : Option (List ℕ)) → IsListStep (event.Drop name must of) lists (Graphs lines) new
drop-step lists new name must lines allowed are left of s free =
    step-done s.caller (event.Drop name must of) (part_with s lists) (part_with s new) (Graphs lines)
    (ap (λ (why : Option Refusal). first_there why (refused_drop name must lists)) free ∙ allowed) refl (ap Graphs are) (ap (part_with s) left)

pub without-shown : (catalog : NamedGraphs) (jobs : List Job) (imports : List (List ℕ × ChangeReply)) (last : ℕ) (lists : UserLists) (name : List ℕ) → shown catalog jobs imports last ≡ lists → shown (after_remove catalog name) jobs imports last ≡ without_graph name lists
without-shown catalog jobs imports last lists name is =
    ap (λ (graphs : List (List ℕ × NamedGraph)). record (shown catalog jobs imports last) { graphs = graphs }) (removed-mapped named name catalog.entries)
    ∙ ap (without_graph name) is
