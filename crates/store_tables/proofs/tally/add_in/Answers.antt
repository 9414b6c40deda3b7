use Rattle.std.proofs.Common.{◌≡◌, ◌+◌, rules, arith}
use Rattle.std.proofs.lemmas.Result.{on_ok_weaker}
use Rattle.store_tables.proofs.SearchLemmas.{row-there, told-some, told-none, added-here, added-behind}
use Rattle.store_tables.proofs.tally.add_in.Goals as goal

pub returns-in_ok-sum-in-Some-clause-searchable : goal.returns-in_ok-sum-in-Some-clause-searchable
returns-in_ok-sum-in-Some-clause-searchable c =
    let end = c.search_end-place in
    let there = row-there c.args.rows.now end.result.0 end.ensures.within in
    let told = told-some c.args.name.now there.0 c.in-Some.count (c.in-Some.ensures there.0 there.1) in
    let sum : c.in_ok-sum-in-Some.sum ≡ c.in-Some.count + c.args.more = search rules in
    on_ok_weaker c.set_count.result (λ set. (added-here c.args.name.now c.args.rows.now c.set_count.new.rows end.result.0 end.result.1 c.args.more c.in_ok-sum-in-Some.sum there.0 there.1 told.0 end.ensures.reached c.requires (omega (arith, sum, told.1)) (set there.0 there.1)).0) c.set_count.ensures

pub returns-in_ok-sum-in-Some-clause-added : goal.returns-in_ok-sum-in-Some-clause-added
returns-in_ok-sum-in-Some-clause-added c =
    let end = c.search_end-place in
    let there = row-there c.args.rows.now end.result.0 end.ensures.within in
    let told = told-some c.args.name.now there.0 c.in-Some.count (c.in-Some.ensures there.0 there.1) in
    let sum : c.in_ok-sum-in-Some.sum ≡ c.in-Some.count + c.args.more = search rules in
    on_ok_weaker c.set_count.result (λ set. (added-here c.args.name.now c.args.rows.now c.set_count.new.rows end.result.0 end.result.1 c.args.more c.in_ok-sum-in-Some.sum there.0 there.1 told.0 end.ensures.reached c.requires (omega (arith, sum, told.1)) (set there.0 there.1)).1) c.set_count.ensures

pub returns-in_ok-new-in-None-clause-searchable : goal.returns-in_ok-new-in-None-clause-searchable
returns-in_ok-new-in-None-clause-searchable c =
    let end = c.search_end-place in
    let there = row-there c.args.rows.now end.result.0 end.ensures.within in
    let apart = told-none c.args.name.now there.0 (c.in-None.ensures there.0 there.1) in
    on_ok_weaker c.push_behind.result (λ pushed. (added-behind c.args.name.now c.args.rows.now c.push_behind.new.rows end.result.0 end.result.1 c.args.more there.0 c.in_ok-new-in-None.new there.1 apart end.ensures.reached end.ensures.ends c.requires c.in_ok-new-in-None.ensures (rw c.turns_high.ensures at (pushed there.0 there.1))).0) c.push_behind.ensures

pub returns-in_ok-new-in-None-clause-added : goal.returns-in_ok-new-in-None-clause-added
returns-in_ok-new-in-None-clause-added c =
    let end = c.search_end-place in
    let there = row-there c.args.rows.now end.result.0 end.ensures.within in
    let apart = told-none c.args.name.now there.0 (c.in-None.ensures there.0 there.1) in
    on_ok_weaker c.push_behind.result (λ pushed. (added-behind c.args.name.now c.args.rows.now c.push_behind.new.rows end.result.0 end.result.1 c.args.more there.0 c.in_ok-new-in-None.new there.1 apart end.ensures.reached end.ensures.ends c.requires c.in_ok-new-in-None.ensures (rw c.turns_high.ensures at (pushed there.0 there.1))).1) c.push_behind.ensures
