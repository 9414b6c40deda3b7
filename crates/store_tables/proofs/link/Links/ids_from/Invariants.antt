use Rattle.store_tables.proofs.LinkLemmas.{IsWalked, bound}
use Rattle.store_tables.proofs.link.Links.ids_from.Given as goal

abbrev pub invariant-loop-next : goal.invariant-loop-next
invariant-loop-next l = IsWalked l.rels l.self.rels l.source l.next l.ids.items

abbrev pub decreases-loop-next : goal.decreases-loop-next
decreases-loop-next l = bound l.next
