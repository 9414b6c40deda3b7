-- What keeps links chained, and what a chain leads to.
use Rattle.std.proofs.Common.{◌≡◌, ℕ, ℤ, ◌+◌, ◌<◌, ◌≤◌, Bool, true, false, cond, eqb, ltb, List, [], ◌∷◌, ◌++◌, length, map, set, take, get_or, replicate, reverse, unwrap_or, Option, Some, None, is_some, refl, sym, ◌∙◌, ap, subst, inl, inr, suc, zero, add-one, arith}
use Rattle.std.specs.List.{AllByRecursion, filter, slice_get}
use Rattle.std.specs.Option.{option_map}
use Rattle.std.proofs.lemmas.Bool.{cases_eq, cases_Bool, eq-eqb, eqb-true, ne_eqb, ltb-true, ltb-false}
use Rattle.std.proofs.lemmas.Option.{unwrap_or-slice_get}
use Rattle.std.proofs.lemmas.List.Elements.{filter-append}
use Rattle.std.proofs.lemmas.List.{append_assoc, append-nil, map-append, reverse-append, take_all, length-append, length-map, length-set, get_or_append_left, get_or_at, get_or-set_same, get_or-set_other, get_or_past, take_more}
use Rattle.graph_model.specs.declared.graph.Node.{Node}
use Rattle.graph_model.specs.declared.graph.Rel.{Rel}
use Rattle.graph_model.specs.Graph.{EndsLive, is_node}
use Rattle.store_tables.specs.declared.link.Link.{Link}
use Rattle.store_tables.specs.declared.link.Latest.{Latest}
use Rattle.store_tables.specs.declared.link.Links.{Links}
use Rattle.graph_model.specs.Change.{rel_after}
use Rattle.store_tables.specs.Slots.{slot_at, living, IsNumbered, kept}
use Rattle.store_tables.specs.Links.{rel_id, begins_at, source_at, before_at, latest_at, is_source, latest_below, IsChained, BeginsByLinks, IsLinkedUpTo}
use Rattle.store_tables.proofs.SlotLemmas.{living-++, id-at, find-living, list_any-find}

-- ---- links are made

-- nothing more behind the end is nothing, too
get_or-push_default : {A : Type 0} (xs : List A) (n : ℕ) (default : A) → get_or (xs ++ default ∷ []) n default ≡ get_or xs n default
get_or-push_default [] zero default = refl
get_or-push_default [] (suc n) default = refl
get_or-push_default (x ∷ xs) zero default = refl
get_or-push_default (x ∷ xs) (suc n) default = get_or-push_default xs n default

-- the link of something that never lived here
abbrev pub no_link : Link
no_link = record { source = None; before = None }

source_at-push : (links : List Link) (link : Link) (id : ℕ) → id < length links → source_at (links ++ link ∷ []) id ≡ source_at links id
source_at-push links link id within = ap (λ (l : Link). l.source) (get_or_append_left links (link ∷ []) no_link id within)

before_at-push : (links : List Link) (link : Link) (id : ℕ) → id < length links → before_at (links ++ link ∷ []) id ≡ before_at links id
before_at-push links link id within = ap (λ (l : Link). l.before) (get_or_append_left links (link ∷ []) no_link id within)

-- one more link changes nothing of those below it
latest_below-push : (links : List Link) (link : Link) (node n : ℕ) → n ≤ length links → latest_below (links ++ link ∷ []) node n ≡ latest_below links node n
latest_below-push links link node zero few = refl
latest_below-push links link node (suc n) few =
    let same = source_at-push links link n (omega arith) in
    rw same (ap (cond (is_source node (source_at links n)) (Some n)) (latest_below-push links link node n (omega arith)))

-- the last one is the new one where that began at the node
latest_below-new : (links : List Link) (link : Link) (node : ℕ) → latest_below (links ++ link ∷ []) node (suc (length links)) ≡ cond (is_source node link.source) (Some (length links)) (latest_below links node (length links))
latest_below-new links link node =
    let new : source_at (links ++ link ∷ []) (length links) ≡ link.source = ap (λ (l : Link). l.source) (get_or_at links link [] no_link (length links) refl) in
    rw new (ap (cond (is_source node link.source) (Some (length links))) (latest_below-push links link node (length links) (omega arith)))

length-push : {A : Type 0} (xs : List A) (x : A) → length (xs ++ x ∷ []) ≡ suc (length xs)
length-push xs x = omega (arith, length-append xs (x ∷ []))

-- a link leads to the one before it, where the new link does
before-push : (links : List Link) (link : Link) (id node : ℕ) → ((id node : ℕ) → source_at links id ≡ Some node → before_at links id ≡ latest_below links node id) → (link.source ≡ Some node → link.before ≡ latest_below links node (length links)) → source_at (links ++ link ∷ []) id ≡ Some node → before_at (links ++ link ∷ []) id ≡ latest_below (links ++ link ∷ []) node id
before-push links link id node old new is =
    elim (cases_Bool (ltb id (length links))) [
      | inl below ↦ let within = ltb-true id (length links) below in
          before_at-push links link id within ∙ (old id node (sym (source_at-push links link id within) ∙ is) ∙ sym (latest_below-push links link node id (omega arith)))
      | inr past ↦ let over = ltb-false id (length links) past in
          elim (cases_eq id (length links)) [
            | inl same ↦ let here : get_or (links ++ link ∷ []) id no_link ≡ link = get_or_at links link [] no_link id (sym same) in
                let own = sym (ap (λ (l : Link). l.source) here) ∙ is in
                ap (λ (l : Link). l.before) here ∙ (new own ∙ (sym (ap (latest_below links node) same) ∙ sym (latest_below-push links link node id (omega arith))))
            | inr apart ↦ let none : get_or (links ++ link ∷ []) id no_link ≡ no_link = get_or_past (links ++ link ∷ []) id no_link (omega (arith, over, apart, length-push links link)) in
                let never : ◌≡◌ {A = Option ℕ} None (Some node) = sym (ap (λ (l : Link). l.source) none) ∙ is in cc
          ]
    ]

-- one more relationship is linked
pub IsChained-linked : (links : List Link) (latest : List Latest) (source : ℕ) → IsChained links latest → source < length latest → IsChained (links ++ record { source = Some source; before = latest_at latest source } ∷ []) (set latest source (record { rel = Some (length links) }))
IsChained-linked links latest source chained within =
    let link : Link = record { source = Some source; before = latest_at latest source } in
    let new : Latest = record { rel = Some (length links) } in
    record {
      before = λ id node is. before-push links link id node chained.before
          (λ own. let same : source ≡ node = cc in chained.last source ∙ ap (λ v. latest_below links v (length links)) same) is;
      last = λ node. rw length-push (rw latest_below-new (elim (cases_eq node source) [
        | inl same ↦ let hit : eqb source node ≡ true = eq-eqb source node (sym same) in
            let here : get_or (set latest source new) node (record { rel = None }) ≡ new = rw same (get_or-set_same latest source new (record { rel = None }) within) in
            rw hit (ap (λ (l : Latest). l.rel) here)
        | inr apart ↦ let miss : eqb source node ≡ false = ne_eqb source node (λ same. apart (sym same)) in
            let there = get_or-set_other latest source node new (record { rel = None }) apart in
            rw miss (ap (λ (l : Latest). l.rel) there ∙ chained.last node)
      ]));
    }

-- one more relationship that doesn't live
pub IsChained-dead : (links : List Link) (latest : List Latest) → IsChained links latest → IsChained (links ++ record { source = None; before = None } ∷ []) latest
IsChained-dead links latest chained = record {
  before = λ id node is. before-push links no_link id node chained.before (λ own. cc) is;
  last = λ node. rw length-push (rw latest_below-new (chained.last node));
}

-- one more node
pub IsChained-node : (links : List Link) (latest : List Latest) → IsChained links latest → IsChained links (latest ++ record { rel = None } ∷ [])
IsChained-node links latest chained = record {
  before = chained.before;
  last = λ node. ap (λ (l : Latest). l.rel) (get_or-push_default latest node (record { rel = None })) ∙ chained.last node;
}

-- nothing is linked
pub IsChained-none : IsChained [] []
IsChained-none = record {
  before = λ id node is. let never : ◌≡◌ {A = Option ℕ} None (Some node) = is in cc;
  last = λ node. refl;
}

-- ---- the relationships of a node

-- what begins at a node among some slots
abbrev pub begun : ℕ → List (Option Rel) → List Rel
begun node rels = filter (begins_at node) (living rels)

-- a source that is a node
is_source-true : (node : ℕ) (source : Option ℕ) → is_source node source ≡ true → source ≡ Some node
is_source-true node None is = cc
is_source-true node (Some source) is = ap Some (eqb-true source node is)

-- the last one below n is below n and begins at the node
pub latest_below-some : (links : List Link) (node n id : ℕ) → latest_below links node n ≡ Some id → (id < n) × (source_at links id ≡ Some node)
latest_below-some links node zero id found = cc
latest_below-some links node (suc n) id found =
    elim (cases_Bool (is_source node (source_at links n))) [
      | inl begins_here ↦ let here : Some n ≡ Some id = rw begins_here at found in let same : n ≡ id = cc in
          (omega arith, rw (← same) (is_source-true node (source_at links n) begins_here))
      | inr elsewhere ↦ let lower : latest_below links node n ≡ Some id = rw elsewhere at found in
          let below = latest_below-some links node n id lower in (omega (arith, below.0), below.1)
    ]

-- a slot of which nothing begins at a node
begun-skipped : (node : ℕ) (slot : Option Rel) → ((rel : Rel) → slot ≡ Some rel → begins_at node rel ≡ false) → begun node (slot ∷ []) ≡ []
begun-skipped node None others = refl
begun-skipped node (Some rel) others = rw (others rel refl) refl

-- one more slot
begun-more : (node : ℕ) (rels : List (Option Rel)) (n : ℕ) → n < length rels → begun node (take (n + 1) rels) ≡ begun node (take n rels) ++ begun node (slot_at rels n ∷ [])
begun-more node rels n within =
    rw (take_more rels n None within, living-++) (filter-append (begins_at node) (living (take n rels)) (living (slot_at rels n ∷ [])))

-- the number of slots up to the next relationship
abbrev pub bound : Option ℕ → ℕ
bound None = 0
bound (Some id) = id + 1

-- what begins at a node below n stands up to the last one
begun-bound : (node : ℕ) (rels : List (Option Rel)) (links : List Link) (n : ℕ) → BeginsByLinks rels links → n ≤ length links → n ≤ length rels → begun node (take n rels) ≡ begun node (take (bound (latest_below links node n)) rels)
begun-bound node rels links zero begins linked within = refl
begun-bound node rels links (suc n) begins linked within =
    elim (cases_Bool (is_source node (source_at links n))) [
      | inl begins_here ↦ rw begins_here (ap (λ k. begun node (take k rels)) (sym (add-one n)))
      | inr elsewhere ↦ let others : (rel : Rel) → slot_at rels n ≡ Some rel → begins_at node rel ≡ false =
          (λ rel is. let source = begins n rel (omega arith) is in (rw source at elsewhere)) in
          let skipped = begun-skipped node (slot_at rels n) others in
          let one = begun-more node rels n (omega arith) in
          let rest = begun-bound node rels links n begins (omega arith) (omega arith) in
          rw elsewhere (ap (λ k. begun node (take k rels)) (sym (add-one n)) ∙ (one ∙ (ap (λ (last : List Rel). begun node (take n rels) ++ last) skipped ∙ (append-nil (begun node (take n rels)) ∙ rest))))
    ]

-- ---- a walk from the last relationship of a node to the first

pub record IsWalked (rels : List (Option Rel)) (links : List Link) (node : ℕ) (next : Option ℕ) (ids : List ℕ) : Type 0 where
  pub reached : map rel_id (begun node rels) ≡ map rel_id (begun node (take (bound next) rels)) ++ reverse ids
  pub there : (id : ℕ) → next ≡ Some id → (id < length links) × (source_at links id ≡ Some node)

pub IsWalked-start : (rels : List (Option Rel)) (links : List Link) (latest : List Latest) (node : ℕ) → IsChained links latest → BeginsByLinks rels links → length links ≡ length rels → IsWalked rels links node (latest_at latest node) []
IsWalked-start rels links latest node chained begins long =
    let all = begun-bound node rels links (length links) begins (omega arith) (omega arith) in
    let whole : take (length links) rels ≡ rels = take_all (length links) rels (omega arith) in
    record {
      reached = rw (chained.last node, append-nil) (ap (map rel_id) (rw whole at all));
      there = λ id is. latest_below-some links node (length links) id (sym (chained.last node) ∙ is);
    }

-- one step: what stands at the next relationship is kept where it lives
step_reached : (rels : List (Option Rel)) (links : List Link) (node id : ℕ) (ids kept : List ℕ) → map rel_id (begun node (slot_at rels id ∷ [])) ++ reverse ids ≡ reverse kept → id < length rels → map rel_id (begun node (take (id + 1) rels)) ++ reverse ids ≡ map rel_id (begun node (take id rels)) ++ reverse kept
step_reached rels links node id ids kept is within =
    rw (begun-more node rels id within, map-append, append_assoc (map rel_id (begun node (take id rels))) (map rel_id (begun node (slot_at rels id ∷ []))) (reverse ids), is) refl

pub IsWalked-step : (rels : List (Option Rel)) (links : List Link) (latest : List Latest) (node id : ℕ) (ids kept : List ℕ) → IsChained links latest → BeginsByLinks rels links → length links ≡ length rels → IsWalked rels links node (Some id) ids → map rel_id (begun node (slot_at rels id ∷ [])) ++ reverse ids ≡ reverse kept → IsWalked rels links node (before_at links id) kept
IsWalked-step rels links latest node id ids kept chained begins long walked is =
    let here = walked.there id refl in
    let before = chained.before id node here.1 in
    let rest = begun-bound node rels links id begins (omega (arith, here.0)) (omega (arith, here.0)) in
    record {
      reached = walked.reached ∙ (step_reached rels links node id ids kept is (omega (arith, here.0)) ∙ rw before (ap (λ (found : List Rel). map rel_id found ++ reverse kept) rest));
      there = λ other found. let lower = latest_below-some links node id other (sym before ∙ found) in (omega (arith, lower.0, here.0), lower.1);
    }

-- each step leads to a lower id
bound-latest_below : (links : List Link) (node n : ℕ) → bound (latest_below links node n) ≤ n
bound-latest_below links node zero = omega arith
bound-latest_below links node (suc n) =
    elim (cases_Bool (is_source node (source_at links n))) [
      | inl begins_here ↦ rw begins_here (omega arith)
      | inr elsewhere ↦ let lower = bound-latest_below links node n in rw elsewhere (omega (arith, lower))
    ]

pub walked_smaller : (rels : List (Option Rel)) (links : List Link) (latest : List Latest) (node id : ℕ) (ids : List ℕ) → IsChained links latest → IsWalked rels links node (Some id) ids → bound (before_at links id) < bound (Some id)
walked_smaller rels links latest node id ids chained walked =
    let before = chained.before id node (walked.there id refl).1 in
    let lower = bound-latest_below links node id in rw before (omega (arith, lower))

-- a dead relationship is passed over, and a living one is kept
pub kept_dead : (rels : List (Option Rel)) (node id : ℕ) (ids : List ℕ) → slot_at rels id ≡ None → map rel_id (begun node (slot_at rels id ∷ [])) ++ reverse ids ≡ reverse ids
kept_dead rels node id ids dead = rw dead refl

pub kept_living : (rels : List (Option Rel)) (links : List Link) (node id : ℕ) (rel : Rel) (ids : List ℕ) → IsNumbered rel_id 0 rels → BeginsByLinks rels links → id < length links → source_at links id ≡ Some node → slot_at rels id ≡ Some rel → map rel_id (begun node (slot_at rels id ∷ [])) ++ reverse ids ≡ reverse (ids ++ id ∷ [])
kept_living rels links node id rel ids numbered begins within source is =
    let own : rel.id ≡ id = omega (arith, id-at rel_id rels 0 id rel numbered is) in
    let from = sym (begins id rel within is) ∙ source in
    let same : rel.source ≡ node = cc in
    let yes : eqb rel.source node ≡ true = eq-eqb rel.source node same in
    rw (is, yes, own, reverse-append ids (id ∷ [])) refl

-- ---- slots are linked, one after another

-- what is missing is read as nothing
pub missing_default : {A : Type 0} (xs : List A) (i : ℕ) (default : A) → ◌≡◌ {A = Option A} None (slice_get xs i) → get_or xs i default ≡ default
missing_default {A} xs i default none = sym (unwrap_or-slice_get xs i default) ∙ ap (λ (o : Option A). unwrap_or o default) (sym none)

begun-push : (rels : List (Option Rel)) (links : List Link) (link : Link) → BeginsByLinks rels links → ((rel : Rel) → slot_at rels (length links) ≡ Some rel → link.source ≡ Some rel.source) → BeginsByLinks rels (links ++ link ∷ [])
begun-push rels links link begins new = λ id rel within is.
    elim (cases_Bool (ltb id (length links))) [
      | inl below ↦ let old = ltb-true id (length links) below in source_at-push links link id old ∙ begins id rel old is
      | inr past ↦ let over = ltb-false id (length links) past in
          let same : id ≡ length links = omega (arith, over, within, length-push links link) in
          ap (λ (l : Link). l.source) (get_or_at links link [] no_link id (sym same)) ∙ new rel (rw (← same) is)
    ]

-- a slot with a relationship
pub linked_rel : (rels : List (Option Rel)) (links : List Link) (latest : List Latest) (row nodes : ℕ) (rel : Rel) → IsLinkedUpTo rels links latest row nodes → slot_at rels row ≡ Some rel → rel.source < length latest → IsLinkedUpTo rels (links ++ record { source = Some rel.source; before = latest_at latest rel.source } ∷ []) (set latest rel.source (record { rel = Some (length links) })) (row + 1) nodes
linked_rel rels links latest row nodes rel linked is within = record {
  chained = IsChained-linked links latest rel.source linked.chained within;
  begun = begun-push rels links (record { source = Some rel.source; before = latest_at latest rel.source }) linked.begun
      (λ other there. let found : slot_at rels row ≡ Some other = rw linked.rows at there in
      let same : rel ≡ other = cc in ap (λ (r : Rel). Some r.source) same);
  rows = omega (arith, length-push links (record { source = Some rel.source; before = latest_at latest rel.source }), linked.rows);
  nodes_known = length-set latest rel.source (record { rel = Some (length links) }) ∙ linked.nodes_known;
}

-- a dead slot
pub linked_dead : (rels : List (Option Rel)) (links : List Link) (latest : List Latest) (row nodes : ℕ) → IsLinkedUpTo rels links latest row nodes → slot_at rels row ≡ None → IsLinkedUpTo rels (links ++ record { source = None; before = None } ∷ []) latest (row + 1) nodes
linked_dead rels links latest row nodes linked dead = record {
  chained = IsChained-dead links latest linked.chained;
  begun = begun-push rels links no_link linked.begun
      (λ other there. let found : slot_at rels row ≡ Some other = rw linked.rows at there in
      let never : ◌≡◌ {A = Option Rel} None (Some other) = sym dead ∙ found in cc);
  rows = omega (arith, length-push links no_link, linked.rows);
  nodes_known = linked.nodes_known;
}

-- nodes at which nothing began
pub IsChained-nodes : (links : List Link) (latest : List Latest) (count : ℕ) → IsChained links latest → IsChained links (latest ++ replicate count (record { rel = None }))
IsChained-nodes links latest zero chained = rw append-nil chained
IsChained-nodes links latest (suc count) chained =
    let none : Latest = record { rel = None } in
    rw (← append_assoc latest (none ∷ []) (replicate count none)) (IsChained-nodes links (latest ++ none ∷ []) count (IsChained-node links latest chained))
