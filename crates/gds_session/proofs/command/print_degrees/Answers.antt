use Rattle.std.proofs.Common.{inr, sym, ap, ◌∙◌}
use Rattle.gds_session.specs.OnceText.{degree_lines, once_text}
use Rattle.gds_session.proofs.Bytes.{wrote_front}
use Rattle.gds_session.proofs.command.print_degrees.Goals as goal

pub returns-in-Err-Fault-clause-bytes : goal.returns-in-Err-Fault-clause-bytes
returns-in-Err-Fault-clause-bytes g c =
    let made = ap once_text (sym c.deref.ensures.value) ∙ c.in-Ok.ensures.degrees in
    let wrote =
    wrote_front (g.W.Sink.taken c.args.sink.now) (g.W.Sink.taken c.write_input.new.sink) (once_text c.args.bytes.items)
    (degree_lines c.in-Ok.input.nodes c.in-Ok.input.arcs.items) made c.in-Err-Fault.ensures.err in
    record { written = wrote.0; appended = wrote.1; ends = wrote.2 }

pub returns-in-Err-OutOfMemory-write_input-clause-bytes : goal.returns-in-Err-OutOfMemory-write_input-clause-bytes
returns-in-Err-OutOfMemory-write_input-clause-bytes g c =
    let made = ap once_text (sym c.deref.ensures.value) ∙ c.in-Ok.ensures.degrees in
    let wrote =
    wrote_front (g.W.Sink.taken c.args.sink.now) (g.W.Sink.taken c.write_input.new.sink) (once_text c.args.bytes.items)
    (degree_lines c.in-Ok.input.nodes c.in-Ok.input.arcs.items) made c.in-Err-OutOfMemory-write_input.ensures.err in
    record { written = wrote.0; appended = wrote.1; ends = inr wrote.2 }
