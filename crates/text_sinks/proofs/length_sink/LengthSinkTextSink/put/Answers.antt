use Rattle.std.proofs.Common.{refl, sym, append-nil, arith}
use Rattle.text_sinks.proofs.length_sink.LengthSinkTextSink.put.Goals as goal

pub returns-clause-wrote : goal.returns-clause-wrote
returns-clause-wrote c = record {
  ok = record {
    same = refl;
    counted = omega (arith, c.saturating_add-self.ensures);
    front = c.args.part.now;
    handed = tt;
    whole = sym (append-nil c.args.part.now);
    held = refl;
    calm = refl;
  };
  err = tt;
}
