use Rattle.std.proofs.Common.{◌≡◌, false, ap, ◌∙◌}
use Rattle.std.proofs.lemmas.Slice.Zip.{firsts-zip}
use Rattle.graph_model.specs.Projection.{is_among}
use Rattle.csr_columns.specs.Plain.{parts_with_column}
use Rattle.csr_columns.specs.declared.parts.Parts.{Parts}
use Rattle.csr_columns.proofs.WithColumn.{shown-wider, AreColumns-wider}
use Rattle.csr_columns.proofs.projection.Projection.wider.Goals as goal

pub invariant_of-result : goal.invariant_of-result
invariant_of-result c =
    let inside = c.self.inside in
    let names = firsts-zip inside.keys inside.columns c.self.invariant.columns_named in
    let none : is_among inside.keys c.args.key ≡ false = rw (← c.self.view_is, names) at c.requires in
    rw (c.keys.view_is, c.in_ok-keys.ensures, c.in_ok-try_clone.ensures, c.columns.view_is, c.in_ok-columns.ensures, c.in_ok-try_clone-2.ensures, c.in_ok-shared.ensures, c.in_ok-values.ensures, c.in_ok-try_clone-3.ensures, c.in_ok-try_clone-4.ensures, c.in_ok-try_clone-5.ensures, c.in_ok-try_clone-6.ensures, c.place_among-place.ensures.place, c.as_slice.ensures.value, c.as_slice-2.ensures.value, c.get.ensures)
    (AreColumns-wider inside.ids inside.labels inside.flags inside.keys inside.columns inside.types c.args.key c.args.column.now c.self.invariant none)

pub returns : goal.returns
returns c =
    let inside = c.self.inside in
    rw (c.keys.view_is, c.in_ok-keys.ensures, c.in_ok-try_clone.ensures, c.columns.view_is, c.in_ok-columns.ensures, c.in_ok-try_clone-2.ensures, c.in_ok-shared.ensures, c.in_ok-values.ensures, c.in_ok-try_clone-3.ensures, c.in_ok-try_clone-4.ensures, c.in_ok-try_clone-5.ensures, c.in_ok-try_clone-6.ensures, c.place_among-place.ensures.place, c.as_slice.ensures.value, c.as_slice-2.ensures.value, c.get.ensures)
    (shown-wider inside.ids inside.labels inside.flags inside.keys inside.columns inside.types c.args.key c.args.column.now c.self.invariant
    ∙ ap (λ (p : Parts). parts_with_column p c.args.key c.args.column.now) c.self.view_is)
