use Rattle.std.proofs.Common.{◌++◌, ◌+◌, length, drop, ◌∙◌, ap, arith}
use Rattle.gds_causes.specs.Front.{AppendsFront}
use Rattle.gds_session.specs.Ending.{line_of_degree, lines_of_rows}
use Rattle.gds_session.proofs.Bytes.{Appends-more, front_of, front_written, line_waits, piece_written, OnErr-map}
use Rattle.gds_session.proofs.degrees.write_degrees.Goals as goal

pub returns-in_default-clause-err : goal.returns-in_default-clause-err
returns-in_default-clause-err g c =
    front_written (g.W.Sink.taken c.args.sink.now) (g.W.Sink.taken c.loop-node.sink) c.loop-node.invariant.written c.loop-node.text.items
    (lines_of_rows c.loop-node.node (drop c.loop-node.node c.args.csr.now.rows)) (lines_of_rows 0 c.args.csr.now.rows)
    c.loop-node.invariant.taken c.loop-node.invariant.whole

pub returns-in-Err-clause-err : goal.returns-in-Err-clause-err
returns-in-Err-clause-err g c =
    let rows = c.args.csr.now.rows in
    let node = c.loop-node.node in
    let waits =
    line_waits c.loop-node.invariant.written c.loop-node.text.items node rows (lines_of_rows 0 rows) c.push_line.new.text.items (omega arith)
    c.loop-node.invariant.whole (c.in-Ok.ensures ∙ ap (λ row. c.loop-node.text.items ++ line_of_degree node (length row)) c.row.ensures.row) in
    front_of (g.W.Sink.taken c.args.sink.now) (g.W.Sink.taken c.loop-node.sink) (g.W.Sink.taken c.hand_on.new.sink)
    c.loop-node.invariant.written c.push_line.new.text.items (lines_of_rows (node + 1) (drop (node + 1) rows)) (lines_of_rows 0 rows)
    c.loop-node.invariant.taken c.in-Err.ensures.err waits

pub loop-node-preserved : goal.loop-node-preserved
loop-node-preserved g c =
    let rows = c.args.csr.now.rows in
    let node = c.loop-node.node in
    let handed = c.in_default-hand_on.ensures.ok in
    let written = c.loop-node.invariant.written in
    let waits =
    line_waits written c.loop-node.text.items node rows (lines_of_rows 0 rows) c.push_line.new.text.items (omega arith)
    c.loop-node.invariant.whole (c.in-Ok.ensures ∙ ap (λ row. c.loop-node.text.items ++ line_of_degree node (length row)) c.row.ensures.row) in
    record {
      written = written ++ handed.0;
      taken =
          Appends-more (g.W.Sink.taken c.args.sink.now) (g.W.Sink.taken c.loop-node.sink) (g.W.Sink.taken c.hand_on.new.sink) written handed.0
          c.loop-node.invariant.taken handed.2;
      whole =
          piece_written written c.push_line.new.text.items handed.0 c.hand_on.new.text.items (lines_of_rows (node + 1) (drop (node + 1) rows))
          (lines_of_rows 0 rows) waits handed.1;
      later = omega arith;
    }

pub returns-clause-err : goal.returns-clause-err
returns-clause-err g c =
    let rows = c.args.csr.now.rows in
    let node = c.loop-node.node in
    let whole = (λ (front : AppendsFront (g.W.Sink.taken c.loop-node.sink) (g.W.Sink.taken c.finish.new.sink) c.loop-node.text.items).
    front_of (g.W.Sink.taken c.args.sink.now) (g.W.Sink.taken c.loop-node.sink) (g.W.Sink.taken c.finish.new.sink)
    c.loop-node.invariant.written c.loop-node.text.items (lines_of_rows node (drop node rows)) (lines_of_rows 0 rows)
    c.loop-node.invariant.taken front c.loop-node.invariant.whole) in
    OnErr-map c.finish.result whole (rw c.deref.ensures.value at c.finish.ensures.err)
