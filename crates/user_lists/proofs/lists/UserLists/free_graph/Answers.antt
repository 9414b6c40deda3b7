use Rattle.std.proofs.Common.{option_copied, length, sym, ap, ◌∙◌, arith}
use Rattle.std.proofs.lemmas.Bool.{cond-true, cond-false, ltb-false}
use Rattle.user_lists.proofs.Listed.{graph-shown, has-shown, name-there, name-free, count-shown, room-spent, room-left}
use Rattle.user_lists.proofs.lists.UserLists.free_graph.Goals as goal

pub returns-then-is_some-clause-refused : goal.returns-then-is_some-clause-refused
returns-then-is_some-clause-refused c =
    let there = graph-shown c.self.inside.graphs c.self.inside.jobs.items c.self.inside.imports.entries c.self.inside.last_job c.args.self.now c.args.graph
    (option_copied c.get.result) c.self.view_is c.get.ensures in
    name-there c.args.self.now c.args.graph c.is_some.result (c.is_some.ensures ∙ has-shown c.args.self.now c.args.graph c.get.result there) c.if-is_some.true

pub returns-then-list-ge-MOST_GRAPHS-clause-refused : goal.returns-then-list-ge-MOST_GRAPHS-clause-refused
returns-then-list-ge-MOST_GRAPHS-clause-refused c =
    let there = graph-shown c.self.inside.graphs c.self.inside.jobs.items c.self.inside.imports.entries c.self.inside.last_job c.args.self.now c.args.graph
    (option_copied c.get.result) c.self.view_is c.get.ensures in
    let count = count-shown c.self.inside.graphs c.self.inside.jobs.items c.self.inside.imports.entries c.self.inside.last_job c.args.self.now c.self.view_is in
    name-free c.args.self.now c.args.graph c.is_some.result (c.is_some.ensures ∙ has-shown c.args.self.now c.args.graph c.get.result there) c.if-is_some.false
    ∙ room-spent (length c.args.self.now.graphs) (omega (arith, count, c.if-list-ge-MOST_GRAPHS.true, ap length c.list.ensures.entries))

pub returns-clause-free : goal.returns-clause-free
returns-clause-free c =
    let there = graph-shown c.self.inside.graphs c.self.inside.jobs.items c.self.inside.imports.entries c.self.inside.last_job c.args.self.now c.args.graph
    (option_copied c.get.result) c.self.view_is c.get.ensures in
    let count = count-shown c.self.inside.graphs c.self.inside.jobs.items c.self.inside.imports.entries c.self.inside.last_job c.args.self.now c.self.view_is in
    name-free c.args.self.now c.args.graph c.is_some.result (c.is_some.ensures ∙ has-shown c.args.self.now c.args.graph c.get.result there) c.if-is_some.false
    ∙ room-left (length c.args.self.now.graphs) (omega (arith, count, c.if-list-ge-MOST_GRAPHS.false, ap length c.list.ensures.entries))
