-- What comes of a capture and a specification.
--   PlainCapture               what a job captured, as plain data
--   plain_capture captured     the plain form of a capture
--   made_of capture spec       the graph that is made, or why there is none
--   plain_made made            the plain form of a graph in columns, or why there is none
--   BuiltGraph                 what a graph was made of, and what was asked for
use Rattle.std.specs.Prelude.{◌≡◌, Result, Ok, Err}
use Rattle.graph_model.specs.declared.graph.PropertyGraph.{PropertyGraph}
use Rattle.graph_model.specs.declared.refusal.Refusal.{Refusal}
use Rattle.graph_model.specs.Projection.{PlainProjection}
use Rattle.projection_spec.specs.NativeProjection.{projected}
use Rattle.csr_columns.specs.declared.parts.Parts.{Parts}
use Rattle.csr_columns.specs.Plain.{plain}
use Rattle.graph_making.specs.declared.capture.Captured.{Captured}
use Rattle.graph_making.specs.declared.capture.Captured.TheVariants as captured
use Rattle.graph_making.specs.declared.capture.MakeSpec.{MakeSpec}
use Rattle.graph_making.specs.declared.capture.MakeSpec.TheVariants.{Native}

-- what a job captured when it began: the graph of the store. Each kind of source has a variant.
pub data PlainCapture : Type 0 where
  Store : PropertyGraph → PlainCapture

-- the plain form of a capture
abbrev pub plain_capture : Captured → PlainCapture
plain_capture (captured.Store g) = Store g

-- the graph that is made of a capture, or why there is none: entries project the store as it was
abbrev pub made_of : PlainCapture → MakeSpec → Result PlainProjection Refusal
made_of (Store g) (Native spec) = projected spec g

-- the plain form of a graph in columns, or why there is none
abbrev pub plain_made : Result Parts Refusal → Result PlainProjection Refusal
plain_made (Ok parts) = Ok (plain parts)
plain_made (Err why) = Err why

-- what a graph was made of, and what was asked for: both settle which graph it is, or why there is none
pub record BuiltGraph : Type 0 where
  pub from : PlainCapture
  pub spec : MakeSpec
