use Rattle.user_catalog.proofs.Finding.{changes_keep_catalog}
use Rattle.user_catalog.proofs.laws.calls_keep_catalogs.Goals as goal

pub returns : goal.returns
returns c = changes_keep_catalog
