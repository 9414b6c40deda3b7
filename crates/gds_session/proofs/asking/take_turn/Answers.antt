use Rattle.std.proofs.Common.{◌≡◌, ℕ, List, ◌++◌, sym, ap, ◌∙◌, subst, arith, length}
use Rattle.std.specs.Io.KnownBytes.{Consumes}
use Rattle.desk_core.specs.Fields.{state_of}
use Rattle.gds_session.specs.Serving.{moment}
use Rattle.gds_session.proofs.TurnLemmas.{turned_last, turned_stopped, turned_unread}
use Rattle.gds_session.proofs.asking.take_turn.Goals as goal

pub returns-in-Ok-eq0-clause-turned : goal.returns-in-Ok-eq0-clause-turned
returns-in-Ok-eq0-clause-turned g c =
    turned_last c.serve_last.result _ (g.S.Source.remaining c.args.source.now) (g.S.Source.remaining c.read_piece.new.source) c.in-Ok-eq0.ensures.bytes.0
    c.args.pending.now.long c.args.pending.now.bytes.items c.serve_last.new.pending.long c.serve_last.new.pending.bytes.items
    (moment (state_of c.args.desk.now) (g.K.Keeper.faults c.args.desk.now.keeper) (g.W.Sink.taken c.args.sink.now) (g.W.Sink.flushed c.args.sink.now) (g.W.Sink.faults c.args.sink.now)) (moment (state_of c.serve_last.new.desk) (g.K.Keeper.faults c.serve_last.new.desk.keeper) (g.W.Sink.taken c.serve_last.new.sink) (g.W.Sink.flushed c.serve_last.new.sink) (g.W.Sink.faults c.serve_last.new.sink))
    (c.in-Ok-eq0.ensures.bytes.2 ∙ c.in-Ok-eq0.field-0-test) c.in-Ok-eq0.ensures.bytes.3 (c.in-Ok-eq0.ensures.end c.in-Ok-eq0.field-0-test) c.serve_last.ensures.ends

pub returns-in-Err-serve_piece-clause-turned : goal.returns-in-Err-serve_piece-clause-turned
returns-in-Err-serve_piece-clause-turned g c =
    let read = c.in-Ok.ensures.bytes in
    let piece : List ℕ = c.deref.result.now in
    let is : read.0 ≡ piece = sym (c.deref.ensures.value ∙ read.1 ∙ ap (λ front. front ++ read.0) c.requires.fresh) in
    let P : List ℕ → Type 0 = λ p. Consumes (g.S.Source.remaining c.args.source.now) (g.S.Source.remaining c.read_piece.new.source) p in
    rw c.write_end.ensures
    (turned_stopped c.in-Err-serve_piece.why _ (g.S.Source.remaining c.args.source.now) (g.S.Source.remaining c.read_piece.new.source) piece
    c.args.pending.now.long c.args.pending.now.bytes.items c.serve_piece.new.pending.long c.serve_piece.new.pending.bytes.items
    (moment (state_of c.args.desk.now) (g.K.Keeper.faults c.args.desk.now.keeper) (g.W.Sink.taken c.args.sink.now) (g.W.Sink.flushed c.args.sink.now) (g.W.Sink.faults c.args.sink.now)) (moment (state_of c.serve_piece.new.desk) (g.K.Keeper.faults c.serve_piece.new.desk.keeper) (g.W.Sink.taken c.serve_piece.new.sink) (g.W.Sink.flushed c.serve_piece.new.sink) (g.W.Sink.faults c.serve_piece.new.sink))
    (omega (arith, ap length is, read.2, c.in-Ok.ensures.ok)) (subst P is read.3) c.in-Err-serve_piece.ensures.err)

pub returns-in-Err-clause-turned : goal.returns-in-Err-clause-turned
returns-in-Err-clause-turned g c =
    rw c.read_end.ensures
    (turned_unread c.in-Err.why (length c.args.piece.now) (g.S.Source.remaining c.args.source.now) (g.S.Source.remaining c.read_piece.new.source)
    c.args.pending.now.long c.args.pending.now.bytes.items c.args.pending.now.long c.args.pending.now.bytes.items (moment (state_of c.args.desk.now) (g.K.Keeper.faults c.args.desk.now.keeper) (g.W.Sink.taken c.args.sink.now) (g.W.Sink.flushed c.args.sink.now) (g.W.Sink.faults c.args.sink.now)) c.in-Err.ensures.bytes.1)
