use Rattle.std.proofs.Common.{List, ℕ, Some, position, sym, ap, ◌∙◌}
use Rattle.graph_model.specs.Projection.{under}
use Rattle.user_catalog.specs.declared.entry.Entry.{Entry}
use Rattle.user_catalog.specs.Catalog.{NamedGraphs, named_graphs, is_named, after_remove}
use Rattle.user_catalog.proofs.Places.{first_of, under-at, removed-at, nowhere, removed-nowhere}
use Rattle.user_catalog.proofs.Valid.{catalog-removed}
use Rattle.user_catalog.proofs.catalog.Catalog.remove.Goals as goal

pub invariant_of-self : goal.invariant_of-self
invariant_of-self c =
    let name = c.args.name.now in
    let items = c.self.inside.entries.items in
    let place = c.in-Some.place in
    let first = first_of name items place c.remove.result (ap (position (is_named name)) (sym c.as_slice.ensures.value) ∙ sym c.place_of.ensures ∙ c.in-Some.is) in
    rw (c.remove.ensures.items, ← removed-at name items place c.remove.result first)
    (catalog-removed (named_graphs items c.self.inside.last) name c.self.invariant)

pub returns-in-Some-clause-value : goal.returns-in-Some-clause-value
returns-in-Some-clause-value c =
    let name = c.args.name.now in
    let items = c.self.inside.entries.items in
    let place = c.in-Some.place in
    let first = first_of name items place c.remove.result (ap (position (is_named name)) (sym c.as_slice.ensures.value) ∙ sym c.place_of.ensures ∙ c.in-Some.is) in
    ap (λ (e : List ℕ × Entry). Some e.1) c.remove.ensures.value
    ∙ sym (under-at name items place c.remove.result first)
    ∙ ap (λ (g : NamedGraphs). under name g.entries) c.self.view_is

pub returns-in-Some-clause-ok : goal.returns-in-Some-clause-ok
returns-in-Some-clause-ok c =
    let name = c.args.name.now in
    let items = c.self.inside.entries.items in
    let place = c.in-Some.place in
    let first = first_of name items place c.remove.result (ap (position (is_named name)) (sym c.as_slice.ensures.value) ∙ sym c.place_of.ensures ∙ c.in-Some.is) in
    ap (λ (xs : List (List ℕ × Entry)). named_graphs xs c.self.inside.last)
    (c.remove.ensures.items ∙ sym (removed-at name items place c.remove.result first))
    ∙ ap (λ (g : NamedGraphs). after_remove g name) c.self.view_is

pub returns-in-None-clause-value : goal.returns-in-None-clause-value
returns-in-None-clause-value c =
    let name = c.args.name.now in
    let items = c.self.inside.entries.items in
    sym (nowhere name items (ap (position (is_named name)) (sym c.as_slice.ensures.value) ∙ sym c.place_of.ensures ∙ c.in-None.is))
    ∙ ap (λ (g : NamedGraphs). under name g.entries) c.self.view_is

pub returns-in-None-clause-ok : goal.returns-in-None-clause-ok
returns-in-None-clause-ok c =
    let name = c.args.name.now in
    let items = c.self.inside.entries.items in
    let none = nowhere name items (ap (position (is_named name)) (sym c.as_slice.ensures.value) ∙ sym c.place_of.ensures ∙ c.in-None.is) in
    sym c.self.view_is
    ∙ ap (λ (xs : List (List ℕ × Entry)). named_graphs xs c.self.inside.last) (sym (removed-nowhere name items none))
    ∙ ap (λ (g : NamedGraphs). after_remove g name) c.self.view_is
