use Rattle.std.proofs.Common.{◌≡◌, ◌-◌, ◌≤◌, length, take}
use Rattle.std.specs.Io.KnownBytes.{Appends}
use Rattle.gds_causes.proofs.traits.write_all.Given as goal

-- the sink took the bytes before this place; no more of them are flushed, and its count is as it was
abbrev pub invariant-loop-at : goal.invariant-loop-at
invariant-loop-at g l =
    (l.at ≤ length l.from) × Appends (g.W.Sink.taken l.initial.sink) (g.W.Sink.taken l.sink) (take l.at l.from)
    × (g.W.Sink.flushed l.sink ≡ g.W.Sink.flushed l.initial.sink)
    × (g.W.Sink.faults l.sink ≡ g.W.Sink.faults l.initial.sink)

abbrev pub decreases-loop-at : goal.decreases-loop-at
decreases-loop-at g l = length l.from - l.at
