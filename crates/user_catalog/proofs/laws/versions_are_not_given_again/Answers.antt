use Rattle.user_catalog.proofs.Finding.{next_version_is_new, versions_ascend}
use Rattle.user_catalog.proofs.laws.versions_are_not_given_again.Goals as goal

pub returns : goal.returns
returns c = record { new = next_version_is_new; ascend = versions_ascend }
