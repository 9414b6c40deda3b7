use Rattle.std.proofs.Common.{None, sym, ap}
use Rattle.store_tables.specs.declared.link.Latest.{Latest}
use Rattle.store_tables.proofs.LinkLemmas.{missing_default}
use Rattle.store_tables.proofs.link.last_of.Goals as goal

pub returns-in-None : goal.returns-in-None
returns-in-None c = ap (λ (l : Latest). l.rel) (sym (missing_default c.args.latest.now c.args.node (record { rel = None }) c.in-None.ensures))
