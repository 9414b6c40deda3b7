use Rattle.std.proofs.Common.{◌≡◌, ℕ, List, ◌++◌, drop}
use Rattle.text_sinks.specs.Told.{Puts}
use Rattle.text_sinks.specs.Parts.{parts_text}
use Rattle.text_sinks.proofs.part.put_parts.Given as goal

-- what was put, and the parts that are left, make the whole
abbrev pub invariant-loop-part : goal.invariant-loop-part
invariant-loop-part g l = record {
  written : List ℕ;
  put : Puts (g.T.TextSink.told l.fn.text) (g.T.TextSink.told l.text) written;
  whole : written ++ parts_text (drop l.part-index l.parts) ≡ parts_text l.parts;
}
