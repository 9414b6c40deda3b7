use Rattle.csr_columns.proofs.Listing.{arcs_of-rows_of, listed-values_of}
use Rattle.csr_columns.proofs.laws.listing.Goals as goal

pub returns-clause-arcs : goal.returns-clause-arcs
returns-clause-arcs c = arcs_of-rows_of

pub returns-clause-values : goal.returns-clause-values
returns-clause-values c nodes arcs prop below sorted long = listed-values_of nodes arcs prop.1 below sorted long
