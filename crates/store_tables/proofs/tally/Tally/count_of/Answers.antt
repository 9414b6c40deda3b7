use Rattle.std.proofs.Common.{◌∙◌}
use Rattle.store_tables.proofs.SearchLemmas.{count-told}
use Rattle.store_tables.proofs.tally.Tally.count_of.Goals as goal

pub returns : goal.returns
returns c =
    let end = c.search_end-place in
    rw (← c.self.view_is)
    (c.unwrap_or.ensures ∙ count-told c.args.name.now c.self.inside.rows end.result.0 end.result.1 c.count_at.result end.ensures.within end.ensures.reached end.ensures.ends c.self.invariant c.count_at.ensures)
