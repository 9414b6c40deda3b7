use Rattle.std.proofs.Common.{arith}
use Rattle.std.proofs.lemmas.Result.{on_ok_weaker}
use Rattle.store_tables.proofs.SearchLemmas.{row-there, told-some, told-none, count-none, taken-here, taken-none}
use Rattle.store_tables.proofs.tally.subtract_in.Goals as goal

pub returns-in-Some-clause-searchable : goal.returns-in-Some-clause-searchable
returns-in-Some-clause-searchable c =
    let end = c.search_end-place in
    let there = row-there c.args.rows.now end.result.0 end.ensures.within in
    let told = told-some c.args.name.now there.0 c.in-Some.count (c.in-Some.ensures there.0 there.1) in
    on_ok_weaker c.set_count.result (λ set. (taken-here c.args.name.now c.args.rows.now c.set_count.new.rows end.result.0 end.result.1 c.saturating_sub.result there.0 there.1 told.0 end.ensures.reached c.requires (omega (arith, told.1, c.saturating_sub.ensures)) (set there.0 there.1)).0) c.set_count.ensures

pub returns-in-Some-clause-taken : goal.returns-in-Some-clause-taken
returns-in-Some-clause-taken c =
    let end = c.search_end-place in
    let there = row-there c.args.rows.now end.result.0 end.ensures.within in
    let told = told-some c.args.name.now there.0 c.in-Some.count (c.in-Some.ensures there.0 there.1) in
    on_ok_weaker c.set_count.result (λ set. (taken-here c.args.name.now c.args.rows.now c.set_count.new.rows end.result.0 end.result.1 c.saturating_sub.result there.0 there.1 told.0 end.ensures.reached c.requires (omega (arith, told.1, c.saturating_sub.ensures)) (set there.0 there.1)).1) c.set_count.ensures

pub returns-in-None-clause-taken : goal.returns-in-None-clause-taken
returns-in-None-clause-taken c =
    let end = c.search_end-place in
    let there = row-there c.args.rows.now end.result.0 end.ensures.within in
    let apart = told-none c.args.name.now there.0 (c.in-None.ensures there.0 there.1) in
    taken-none c.args.name.now c.args.rows.now (count-none c.args.name.now c.args.rows.now end.result.0 end.result.1 there.0 there.1 apart end.ensures.reached end.ensures.ends c.requires)
