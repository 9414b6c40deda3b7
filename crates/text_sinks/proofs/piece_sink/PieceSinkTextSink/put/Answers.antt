use Rattle.std.proofs.Common.{rules, [], ◌≡◌, refl}
use Rattle.text_sinks.specs.Told.{gathered}
use Rattle.text_sinks.proofs.ToldLemmas.{wrote_all, wrote_then}
use Rattle.text_sinks.proofs.piece_sink.PieceSinkTextSink.put.Goals as goal

-- nothing waits behind a piece that was handed on, and the part is written as it is
pub returns : goal.returns
returns g c =
    let old = c.args.self.now in
    let mid = c.hand_on.new.self in
    let after = c.write_all.new.sink in
    let first : c.try_extend_from_slice.new.self ≡ old.piece = search rules in
    let second : c.try_extend_from_slice-2.new.self ≡ c.hand_on.new.self.piece = search rules in
    let kept : c.try_extend_from_slice.new.self.items ≡ old.piece.items = rw first refl in
    let empty : c.try_extend_from_slice-2.new.self.items ≡ [] = rw second c.in_ok-hand_on.ensures.piece in
    let told = gathered old.sink.ghost_name (g.W.Sink.taken old.sink.now) old.piece.items (g.W.Sink.flushed old.sink.now) (g.W.Sink.faults old.sink.now) in
    let before = (rw (kept, c.in_ok-hand_on.ensures.piece) at c.in_ok-hand_on.ensures.wrote.ok) in
    let written =
    wrote_all c.write_all.result mid.sink.ghost_name (g.W.Sink.taken mid.sink.now) (g.W.Sink.taken after) (g.W.Sink.flushed mid.sink.now) (g.W.Sink.flushed after)
    (g.W.Sink.faults mid.sink.now) (g.W.Sink.faults after) c.args.part.now
    c.write_all.ensures.ok c.write_all.ensures.err c.write_all.ensures.held c.write_all.ensures.fault c.write_all.ensures.calm c.write_all.ensures.later in
    record {
      wrote = rw empty (wrote_then before written);
    }
