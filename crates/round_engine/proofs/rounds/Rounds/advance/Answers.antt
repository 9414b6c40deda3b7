use Rattle.std.proofs.Common.{◌≡◌, length, take, drop, ◌++◌, ap, arith}
use Rattle.round_engine.proofs.Rounding.{refill}
use Rattle.round_engine.proofs.rounds.Rounds.advance.Goals as goal

-- src/rounds.rt:81:5
pub returns-clause-turned : goal.returns-clause-turned
returns-clause-turned g c =
    let column_is : take c.self.inside.column.len (c.settle_round-settled.new.column ++ drop (length c.settle_round-settled.new.column) c.self.inside.column.items) ≡ c.settle_round-settled.new.column =
    refill c.self.inside.column.len c.settle_round-settled.new.column c.self.inside.column.items
    (omega (arith, c.settle_round-settled.ensures.running.column_long, c.self.invariant.0.column_long, c.deref_mut-2.ensures.len, ap length c.deref_mut-2.ensures.value)) in
    rw (← c.self.view_is, column_is) (rw c.deref_mut-2.ensures.value at c.settle_round-settled.ensures.turned)

-- src/rounds.rt:81:5
pub returns-clause-sound : goal.returns-clause-sound
returns-clause-sound g c =
    let column_is : take c.self.inside.column.len (c.settle_round-settled.new.column ++ drop (length c.settle_round-settled.new.column) c.self.inside.column.items) ≡ c.settle_round-settled.new.column =
    refill c.self.inside.column.len c.settle_round-settled.new.column c.self.inside.column.items
    (omega (arith, c.settle_round-settled.ensures.running.column_long, c.self.invariant.0.column_long, c.deref_mut-2.ensures.len, ap length c.deref_mut-2.ensures.value)) in
    rw (← c.self.view_is, column_is) (rw c.deref_mut-2.ensures.value at c.settle_round-settled.ensures.sound)

-- src/rounds.rt:81:5
pub returns-clause-above : goal.returns-clause-above
returns-clause-above g c =
    let column_is : take c.self.inside.column.len (c.settle_round-settled.new.column ++ drop (length c.settle_round-settled.new.column) c.self.inside.column.items) ≡ c.settle_round-settled.new.column =
    refill c.self.inside.column.len c.settle_round-settled.new.column c.self.inside.column.items
    (omega (arith, c.settle_round-settled.ensures.running.column_long, c.self.invariant.0.column_long, c.deref_mut-2.ensures.len, ap length c.deref_mut-2.ensures.value)) in
    rw (← c.self.view_is, column_is) (rw c.deref_mut-2.ensures.value at c.settle_round-settled.ensures.above)
