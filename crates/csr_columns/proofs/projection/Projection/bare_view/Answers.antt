use Rattle.std.proofs.Common.{◌≡◌, None, ap, ◌∙◌}
use Rattle.graph_model.specs.View.{plain_view}
use Rattle.csr_columns.specs.Plain.{plain}
use Rattle.csr_columns.specs.Parts.{FitTogether}
use Rattle.csr_columns.specs.Choosing.{chosen, first_directed_kind}
use Rattle.csr_columns.specs.ViewParts.{plain_view_of, view_shown}
use Rattle.csr_columns.proofs.Sharing.{made, shared-bare}
use Rattle.csr_columns.proofs.projection.Projection.bare_view.Goals as goal

pub returns-in-Some : goal.returns-in-Some
returns-in-Some c =
    let whole = rw c.in-Some.is at c.in_ok-kind.ensures in
    made c.sharing_view.result
    (λ view. view ≡ view_shown c.args.self.now.ids c.in-Some.kind.now.arcs None (first_directed_kind (chosen c.args.types.now c.args.self.now.types)))
    (λ view. plain_view_of view ≡ plain_view (plain c.args.self.now) c.args.labels.now c.args.types.now None)
    (FitTogether c.args.self.now) c.sharing_view.ensures.view c.sharing_view.ensures.fit
    (λ fit view is. ap plain_view_of is ∙ shared-bare c.args.self.now c.args.labels.now c.args.types.now fit c.in-Some.kind.now whole)
