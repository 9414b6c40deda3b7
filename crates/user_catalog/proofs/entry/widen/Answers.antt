use Rattle.std.proofs.Common.{sym, ap, ◌∙◌, get_or}
use Rattle.graph_model.specs.Projection.{under}
use Rattle.user_catalog.specs.Catalog.{refused_found}
use Rattle.user_catalog.proofs.Places.{first_of, under-at, nowhere, widened-there}
use Rattle.user_catalog.proofs.Refusing.{refused-nowhere, refused-there}
use Rattle.user_catalog.proofs.entry.widen.Goals as goal

pub returns-in_default-clause-refused : goal.returns-in_default-clause-refused
returns-in_default-clause-refused c =
    let name = c.args.name.now in
    let entries = c.args.entries.now in
    refused-nowhere name c.args.version c.args.key (under name entries) c.gone.result
    (nowhere name entries (sym c.place_of.ensures ∙ c.in_default.is)) c.gone.ensures

pub returns-in-Ok-clause-ok : goal.returns-in-Ok-clause-ok
returns-in-Ok-clause-ok c =
    let name = c.args.name.now in
    let entries = c.args.entries.now in
    let place = c.in-Some.place in
    let d = c.index-entries-place.result in
    rw c.in-Ok.ensures.ok
    (widened-there name c.args.key c.args.column.now entries place d c.index-entries-place-in-Ok.result
    (first_of name entries place d (sym c.place_of.ensures ∙ c.in-Some.is)))

pub returns-in-Ok-clause-allowed : goal.returns-in-Ok-clause-allowed
returns-in-Ok-clause-allowed c =
    let name = c.args.name.now in
    let entries = c.args.entries.now in
    let place = c.in-Some.place in
    let d = c.index-entries-place.result in
    ap (refused_found name c.args.version c.args.key) (under-at name entries place d (first_of name entries place d (sym c.place_of.ensures ∙ c.in-Some.is)))
    ∙ c.in-Ok.ensures.allowed

pub returns-in-Err-clause-refused : goal.returns-in-Err-clause-refused
returns-in-Err-clause-refused c =
    let name = c.args.name.now in
    let entries = c.args.entries.now in
    let place = c.in-Some.place in
    let d = c.index-entries-place.result in
    refused-there name c.args.version c.args.key (under name entries) (get_or entries place d).1 c.in-Err.why
    (under-at name entries place d (first_of name entries place d (sym c.place_of.ensures ∙ c.in-Some.is))) c.in-Err.ensures.refused
