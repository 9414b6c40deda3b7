-- Replies as plain data.
--   PlainReply            a reply, its columns as rows and its captures as plain graphs
--   rows_of column        the rows of a column
--   plain_reply reply     the plain form of a reply
use Rattle.std.specs.Prelude.{ℕ, ℤ, Bool, List}
use Rattle.std.specs.List.{zip}
use Rattle.graph_model.specs.declared.graph.Column.{Column}
use Rattle.graph_model.specs.declared.change.ChangeReply.{ChangeReply}
use Rattle.graph_model.specs.declared.refusal.Refusal as model
use Rattle.graph_making.specs.Making.{PlainCapture, plain_capture}
use Rattle.desk_model.specs.declared.lines.GraphLine.{GraphLine}
use Rattle.desk_model.specs.declared.lines.JobLine.{JobLine}
use Rattle.desk_model.specs.declared.asked.Reply.{Reply}
use Rattle.desk_model.specs.declared.asked.Reply.TheVariants as reply

-- a reply: what a change did; rows of the store; a job's number and name, and what it captured; the graph that a job made;
-- that a job ended, or was asked to end; whether there is a graph; graphs; rows of a graph; jobs; or why the event was refused
pub data PlainReply : Type 0 where
  Changed : ChangeReply → PlainReply
  Stored : List (ℕ × ℤ) → PlainReply
  Making : ℕ → List ℕ → PlainCapture → PlainReply
  Made : GraphLine → PlainReply
  Ended : PlainReply
  Asked : List ℕ → PlainReply
  There : List ℕ → Bool → PlainReply
  Graphs : List GraphLine → PlainReply
  Rows : List (ℕ × ℤ) → PlainReply
  JobLines : List JobLine → PlainReply
  Refused : model.Refusal → PlainReply

-- the rows of a column: an id and its value
abbrev pub rows_of : Column → List (ℕ × ℤ)
rows_of column = zip column.ids column.values

-- the plain form of a reply
abbrev pub plain_reply : Reply → PlainReply
plain_reply (reply.Changed answer) = Changed answer
plain_reply (reply.Stored column) = Stored (rows_of column)
plain_reply (reply.Making number name captured) = Making number name (plain_capture captured)
plain_reply (reply.Made line) = Made line
plain_reply reply.Ended = Ended
plain_reply (reply.Asked name) = Asked name
plain_reply (reply.There name found) = There name found
plain_reply (reply.Graphs lines) = Graphs lines
plain_reply (reply.Rows column) = Rows (rows_of column)
plain_reply (reply.JobLines lines) = JobLines lines
plain_reply (reply.Refused why) = Refused why
