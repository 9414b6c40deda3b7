use Rattle.std.proofs.Common.{sym, ap}
use Rattle.store_tables.specs.declared.link.Link.{Link}
use Rattle.store_tables.proofs.LinkLemmas.{no_link, missing_default}
use Rattle.store_tables.proofs.link.before_of.Goals as goal

pub returns-in-None : goal.returns-in-None
returns-in-None c = ap (λ (l : Link). l.before) (sym (missing_default c.args.links.now c.args.id no_link c.in-None.ensures))
