use Rattle.std.proofs.Common.{◌≡◌, List, None, option_copied, sym, ap, ap₂, ◌∙◌, subst, rules}
use Rattle.graph_model.specs.declared.graph.PropertyGraph.{PropertyGraph}
use Rattle.graph_model.specs.declared.kept.ImportNote.{ImportNote}
use Rattle.graph_model.specs.declared.kept.Kept.{Kept}
use Rattle.graph_model.specs.Change.{refused_change, after_change}
use Rattle.graph_model.specs.Kept.{IsValidKept, NoteFits, notes_after}
use Rattle.store_keeper.proofs.held.Opened.change.Goals as goal
use Rattle.store_keeper.proofs.held.Opened.change.Goals.{in-Some+in_ok-add, in_default-note}

pub returns-clause-valid : goal.returns-clause-valid
returns-clause-valid c =
    let before : Kept = record { graph = c.self.inside.store; imports = c.self.inside.notes } in
    let fits : refused_change before.graph c.args.change.now ≡ None = ap (λ (kept : Kept). refused_change kept.graph c.args.change.now) c.self.view_is ∙ c.requires.fits in
    let room : NoteFits (option_copied c.args.note) before.imports = subst (λ (kept : Kept). NoteFits (option_copied c.args.note) kept.imports) (sym c.self.view_is) c.requires.room in
    let valid = c.notes_are_kept.ensures.valid before c.args.change.now (option_copied c.args.note) c.self.invariant (record { formed = c.requires.formed; allowed = fits }) room in
    let graph : c.apply.new.self ≡ after_change before.graph c.args.change.now = search rules in
    let notes : c.match-note.self-inside.notes ≡ notes_after (option_copied c.args.note) before.imports = elim c.match-note.branch [
      | in-Some+in_ok-add w ↦ search rules
      | in_default-note w ↦ search rules
    ] in
    subst IsValidKept (ap₂ (λ (g : PropertyGraph) (ns : List ImportNote). record { graph = g; imports = ns }) (sym graph) (sym notes)) valid

pub invariant_of-self-2 : goal.invariant_of-self-2
invariant_of-self-2 c =
    let before : Kept = record { graph = c.self.inside.store; imports = c.self.inside.notes } in
    let fits : refused_change before.graph c.args.change.now ≡ None = ap (λ (kept : Kept). refused_change kept.graph c.args.change.now) c.self.view_is ∙ c.requires.fits in
    let room : NoteFits (option_copied c.args.note) before.imports = subst (λ (kept : Kept). NoteFits (option_copied c.args.note) kept.imports) (sym c.self.view_is) c.requires.room in
    let valid = c.notes_are_kept.ensures.valid before c.args.change.now (option_copied c.args.note) c.self.invariant (record { formed = c.requires.formed; allowed = fits }) room in
    let graph : c.apply.new.self ≡ after_change before.graph c.args.change.now = search rules in
    let notes : c.match-note.self-inside.notes ≡ notes_after (option_copied c.args.note) before.imports = elim c.match-note.branch [
      | in-Some+in_ok-add w ↦ search rules
      | in_default-note w ↦ search rules
    ] in
    subst IsValidKept (ap₂ (λ (g : PropertyGraph) (ns : List ImportNote). record { graph = g; imports = ns }) (sym graph) (sym notes)) valid
