use Rattle.std.proofs.Common.{sym, ◌∙◌}
use Rattle.user_catalog.proofs.Places.{first_of, under-at, nowhere}
use Rattle.user_catalog.proofs.entry.entry_under.Goals as goal

pub returns-in-Some : goal.returns-in-Some
returns-in-Some c =
    let name = c.args.name.now in
    let entries = c.args.entries.now in
    let place = c.in-Some.place in
    let d = c.index-entries-place.result in
    sym (under-at name entries place d (first_of name entries place d (sym c.place_of.ensures ∙ c.in-Some.is)))

pub returns-in-None : goal.returns-in-None
returns-in-None c = sym (nowhere c.args.name.now c.args.entries.now (sym c.place_of.ensures ∙ c.in-None.is))
