use Rattle.std.proofs.Common.{Bool, List, length, subst}
use Rattle.std.specs.List.{All}
use Rattle.std.proofs.lemmas.Slice.Zip.{seconds-zip}
use Rattle.csr_columns.specs.Parts.{IsLong}
use Rattle.csr_columns.proofs.projection.Projection.kept_flags.Goals as goal

pub kept_flags-requires-clause-long : goal.kept_flags-requires-clause-long
kept_flags-requires-clause-long c =
    let inside = c.self.inside in
    rw (c.as_slice-flags.ensures.value, c.len-nodes.ensures, c.get.ensures)
    (subst (λ (fs : List (List Bool)). All (IsLong (length inside.ids)) fs) (seconds-zip inside.labels inside.flags c.self.invariant.flags_named) c.self.invariant.fit.flags)
