use Rattle.user_catalog.proofs.Finding.{inserted_is_found, removed_is_gone, widened_is_found, others_stay}
use Rattle.user_catalog.proofs.laws.finding.Goals as goal

pub returns : goal.returns
returns c = record {
  inserted = inserted_is_found;
  removed = removed_is_gone;
  widened = widened_is_found;
  others = others_stay;
}
