use Rattle.std.proofs.Common.{◌≡◌, Some, ap, ◌∙◌}
use Rattle.graph_model.specs.View.{plain_view}
use Rattle.csr_columns.specs.Plain.{plain}
use Rattle.csr_columns.specs.Parts.{FitTogether}
use Rattle.csr_columns.specs.Choosing.{chosen, first_directed_kind}
use Rattle.csr_columns.specs.ViewParts.{plain_view_of, view_shown}
use Rattle.csr_columns.proofs.Sharing.{made, shared-heavy}
use Rattle.csr_columns.proofs.projection.Projection.heavy_view.Goals as goal

pub returns-in-Some : goal.returns-in-Some
returns-in-Some c =
    let whole = rw c.in-Some.is at c.in_ok-kind.ensures in
    let place = rw c.get.ensures at c.place_of.ensures.place in
    let beside = rw c.get.ensures at c.place_of.ensures.beside in
    made c.sharing_view.result
    (λ view. view ≡ view_shown c.args.self.now.ids c.in-Some.kind.now.arcs c.place_of.result (first_directed_kind (chosen c.args.types.now c.args.self.now.types)))
    (λ view. plain_view_of view ≡ plain_view (plain c.args.self.now) c.args.labels.now c.args.types.now (Some c.args.key.now))
    (FitTogether c.args.self.now) c.sharing_view.ensures.view c.sharing_view.ensures.fit
    (λ fit view is. ap plain_view_of is ∙ shared-heavy c.args.self.now c.args.labels.now c.args.types.now fit c.in-Some.kind.now whole c.args.key.now c.requires c.place_of.result place beside)
