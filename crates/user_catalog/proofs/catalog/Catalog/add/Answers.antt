use Rattle.std.proofs.Common.{◌≡◌, ◌<◌, None, length, position, sym, ap, ◌∙◌, arith}
use Rattle.graph_model.specs.Projection.{under}
use Rattle.user_catalog.specs.Catalog.{NamedGraphs, named_graphs, is_behind, next_entry, after_insert, most_graphs}
use Rattle.user_catalog.proofs.Places.{inserted-at}
use Rattle.user_catalog.proofs.Valid.{catalog-inserted}
use Rattle.user_catalog.proofs.catalog.Catalog.add.Goals as goal

pub invariant_of-self-2 : goal.invariant_of-self-2
invariant_of-self-2 c =
    let items = c.self.inside.entries.items in
    let last = c.self.inside.last in
    let behind = c.place_behind-behind.ensures ∙ ap (position (is_behind c.args.name)) c.as_slice.ensures.value in
    let len = c.len.ensures ∙ sym c.as_slice.ensures.len ∙ ap length c.as_slice.ensures.value in
    let none : under c.args.name items ≡ None = ap (λ (g : NamedGraphs). under c.args.name g.entries) c.self.view_is ∙ c.requires.free in
    let same : length items ≡ length c.args.self.now.entries = ap (λ (g : NamedGraphs). length g.entries) c.self.view_is in
    let room : length items < most_graphs = omega (arith, c.requires.room) in
    rw (c.in_ok-insert.ensures.items, c.in_ok-graph.ensures, c.unwrap_or-place.ensures, behind, len, ← inserted-at c.args.name (next_entry (named_graphs items last) c.args.graph) items)
    (catalog-inserted (named_graphs items last) c.args.name c.args.graph none room c.self.invariant)

pub returns-clause-ok : goal.returns-clause-ok
returns-clause-ok c =
    let items = c.self.inside.entries.items in
    let last = c.self.inside.last in
    let behind = c.place_behind-behind.ensures ∙ ap (position (is_behind c.args.name)) c.as_slice.ensures.value in
    let len = c.len.ensures ∙ sym c.as_slice.ensures.len ∙ ap length c.as_slice.ensures.value in
    rw (c.in_ok-insert.ensures.items, c.in_ok-graph.ensures, c.unwrap_or-place.ensures, behind, len, ← inserted-at c.args.name (next_entry (named_graphs items last) c.args.graph) items)
    (ap (λ (g : NamedGraphs). after_insert g c.args.name c.args.graph) c.self.view_is)
