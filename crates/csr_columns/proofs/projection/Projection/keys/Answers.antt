use Rattle.std.proofs.Common.{ap, sym, ◌∙◌}
use Rattle.std.proofs.lemmas.Slice.Zip.{firsts-zip}
use Rattle.csr_columns.specs.Rows.{names_of}
use Rattle.csr_columns.specs.declared.parts.Parts.{Parts}
use Rattle.csr_columns.proofs.projection.Projection.keys.Goals as goal

pub returns : goal.returns
returns c =
    c.as_slice.ensures.value ∙ sym (firsts-zip c.self.inside.keys c.self.inside.columns c.self.invariant.columns_named)
    ∙ ap (λ (p : Parts). names_of p.columns) c.self.view_is
