-- Links serve on where relationships keep the nodes at which they begin.
use Rattle.std.proofs.Common.{◌≡◌, ℕ, ℤ, ◌+◌, ◌<◌, ◌≤◌, Bool, true, false, cond, eqb, ltb, List, [], ◌∷◌, ◌++◌, length, map, set, take, get_or, replicate, reverse, unwrap_or, Option, Some, None, is_some, refl, sym, ◌∙◌, ap, subst, inl, inr, suc, zero, add-one, arith}
use Rattle.std.specs.List.{AllByRecursion, filter, slice_get}
use Rattle.std.specs.Option.{option_map}
use Rattle.std.proofs.lemmas.Bool.{cases_eq, cases_Bool, eq-eqb, eqb-true, ne_eqb, ltb-true, ltb-false}
use Rattle.std.proofs.lemmas.Option.{unwrap_or-slice_get}
use Rattle.std.proofs.lemmas.List.Elements.{filter-append}
use Rattle.std.proofs.lemmas.List.{append_assoc, append-nil, map-append, reverse-append, take_all, length-append, length-map, length-set, get_or_append_left, get_or_at, get_or-set_same, get_or-set_other, get_or_past, take_more}
use Rattle.graph_model.specs.declared.graph.Node.{Node}
use Rattle.graph_model.specs.declared.graph.Rel.{Rel}
use Rattle.graph_model.specs.Graph.{EndsLive, is_node}
use Rattle.store_tables.specs.declared.link.Link.{Link}
use Rattle.store_tables.specs.declared.link.Latest.{Latest}
use Rattle.store_tables.specs.declared.link.Links.{Links}
use Rattle.graph_model.specs.Change.{rel_after}
use Rattle.store_tables.specs.Slots.{slot_at, living, IsNumbered, kept}
use Rattle.graph_store.specs.Stored.{node_id}
use Rattle.store_tables.specs.Links.{rel_id}
use Rattle.store_tables.specs.Links.{source_at, before_at, latest_at, is_source, latest_below, IsChained, BeginsByLinks, IsLinkedUpTo}
use Rattle.store_tables.proofs.SlotLemmas.{living-++, id-at, find-living, list_any-find}

-- ---- changes of the store

-- each relationship that lives lived before, and began where it did
abbrev pub KeepsSources : List (Option Rel) → List (Option Rel) → Type 0
KeepsSources before after = (id : ℕ) (rel : Rel) → slot_at after id ≡ Some rel → (was : Rel) × (slot_at before id ≡ Some was) × (was.source ≡ rel.source)

pub KeepsSources-same : (before after : List (Option Rel)) → after ≡ before → KeepsSources before after
KeepsSources-same before after same = λ id rel is. (rel, rw same at is, refl)

pub KeepsSources-map : (f : Rel → Rel) (before : List (Option Rel)) → ((rel : Rel) → (f rel).source ≡ rel.source) → KeepsSources before (map (option_map f) before)
KeepsSources-map f [] same id rel is = cc
KeepsSources-map f (None ∷ before) same zero rel is = cc
KeepsSources-map f (Some was ∷ before) same zero rel is = let made : f was ≡ rel = cc in (was, refl, sym (same was) ∙ ap (λ (r : Rel). r.source) made)
KeepsSources-map f (slot ∷ before) same (suc id) rel is = KeepsSources-map f before same id rel is

pub KeepsSources-kept : (p : Rel → Bool) (before : List (Option Rel)) → KeepsSources before (map (kept p) before)
KeepsSources-kept p [] id rel is = cc
KeepsSources-kept p (None ∷ before) zero rel is = cc
KeepsSources-kept p (Some was ∷ before) zero rel is =
    elim (cases_Bool (p was)) [
      | inl stays ↦ let here : Some was ≡ Some rel = rw stays at is in (was, refl, let same : was ≡ rel = cc in ap (λ (r : Rel). r.source) same)
      | inr goes ↦ let none : ◌≡◌ {A = Option Rel} None (Some rel) = rw goes at is in cc
    ]
KeepsSources-kept p (slot ∷ before) (suc id) rel is = KeepsSources-kept p before id rel is

-- the links serve as before
pub linked-kept : (before after : List (Option Rel)) (links links_after : List Link) (latest latest_after : List Latest) (nodes nodes_after : ℕ) → IsLinkedUpTo before links latest (length before) nodes → links_after ≡ links → latest_after ≡ latest → nodes_after ≡ nodes → length after ≡ length before → KeepsSources before after → IsLinkedUpTo after links_after latest_after (length after) nodes_after
linked-kept before after links links_after latest latest_after nodes nodes_after linked same_links same_latest same_nodes long keeps = record {
  chained = rw (same_links, same_latest) linked.chained;
  begun = rw same_links (λ id rel within is. let was = keeps id rel is in linked.begun id was.0 within was.1 ∙ ap Some was.2);
  rows = rw (same_links, long) linked.rows;
  nodes_known = rw (same_latest, same_nodes) linked.nodes_known;
}

-- the same links serve other nodes and relationships, of which there are as many
pub linked-after : (nodes nodes_after : List (Option Node)) (rels rels_after : List (Option Rel)) (links after : Links) → IsLinkedUpTo rels links.rels links.nodes (length rels) (length nodes) → after ≡ links → length nodes_after ≡ length nodes → length rels_after ≡ length rels → KeepsSources rels rels_after → IsLinkedUpTo rels_after after.rels after.nodes (length rels_after) (length nodes_after)
linked-after nodes nodes_after rels rels_after links after linked same long_nodes long keeps =
    linked-kept rels rels_after links.rels after.rels links.nodes after.nodes (length nodes) (length nodes_after) linked (ap (λ (l : Links). l.rels) same) (ap (λ (l : Links). l.nodes) same) long_nodes long keeps

-- a list that was mapped is as long
pub mapped_length : {A : Type 0} (before after : List A) (f : A → A) → after ≡ map f before → length after ≡ length before
mapped_length before after f is = ap length is ∙ length-map before f

pub set_keeps_sources : (before after : List (Option Rel)) (key : List ℕ) (pairs : List (ℕ × ℤ)) → after ≡ map (option_map (rel_after key pairs)) before → KeepsSources before after
set_keeps_sources before after key pairs is = rw is (KeepsSources-map (rel_after key pairs) before (λ rel. refl))

pub kept_keeps_sources : (before after : List (Option Rel)) (p : Rel → Bool) → after ≡ map (kept p) before → KeepsSources before after
kept_keeps_sources before after p is = rw is (KeepsSources-kept p before)

-- links of the first slots serve where more slots follow
pub begun-front : (rels more : List (Option Rel)) (links : List Link) → BeginsByLinks rels links → length links ≡ length rels → BeginsByLinks (rels ++ more) links
begun-front rels more links begins long = λ id rel within is.
    begins id rel within (sym (get_or_append_left rels more None id (omega (arith, long, within))) ∙ is)

-- ---- the ends of relationships are nodes that were given

-- what holds of each element that lives holds of the one under an id
living-at : {A : Type 0} (P : A → Type 0) (slots : List (Option A)) (id : ℕ) (x : A) → AllByRecursion P (living slots) → slot_at slots id ≡ Some x → P x
living-at P [] id x all is = cc
living-at P (None ∷ slots) zero x all is = cc
living-at P (None ∷ slots) (suc id) x all is = living-at P slots id x all is
living-at P (Some y ∷ slots) zero x all is = let same : y ≡ x = cc in subst P same all.0
living-at P (Some y ∷ slots) (suc id) x all is = living-at P slots id x all.1 is

-- an id under which something lives was given
some_within : {A : Type 0} (slots : List (Option A)) (id : ℕ) → is_some (slot_at slots id) ≡ true → id < length slots
some_within [] id lives = cc
some_within (slot ∷ slots) zero lives = omega arith
some_within (slot ∷ slots) (suc id) lives = omega (arith, some_within slots id lives)

-- a relationship begins at a node that was given
pub source_below : (nodes : List (Option Node)) (rels : List (Option Rel)) (id : ℕ) (rel : Rel) → IsNumbered node_id 0 nodes → AllByRecursion (EndsLive (living nodes)) (living rels) → slot_at rels id ≡ Some rel → rel.source < length nodes
source_below nodes rels id rel numbered ends is =
    let lives = (living-at (EndsLive (living nodes)) rels id rel ends is).0 in
    let found = list_any-find (is_node rel.source) (living nodes) in
    let there = find-living node_id nodes 0 rel.source rel.source numbered (omega arith) in
    some_within nodes rel.source (ap is_some (sym there) ∙ (sym found ∙ lives))
