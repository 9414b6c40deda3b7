use Rattle.std.proofs.Common.{◌≡◌, map, take}
use Rattle.round_engine.proofs.parts.fill_in_turn.Given as goal

abbrev pub invariant-loop-at : goal.invariant-loop-at
invariant-loop-at g l = take l.at l.values ≡ map (g.K.Kernel.next_value l.fn.kernel l.fn.column) (take l.at l.fn.places)
