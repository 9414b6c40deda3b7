-- The text of an answer.
--   first_field                             the first field of an object
--   number_field, whole_field, text_field   a further field of an object
--   refusal_fields                          what is told of a refusal beside
--   refusal_text                            the text of a refusal
--   change_fields                           what a change did
--   list_text text items                    the texts of items in brackets, with commas between them
--   row_text, rows_text                     the rows of a column
--   graph_text, job_text                    a named graph, and a job
--   ok_fields reply                         what a reply tells that isn't a refusal
--   answer_of reply                         the text of a reply
--   line_answer reply                       the same as a line
use Rattle.std.specs.Prelude.{ℕ, ℤ, Bool, true, false, List, [], ◌∷◌, ◌++◌, Option, None, Some, codes, decimal}
use Rattle.std.specs.Fmt.{signed_decimal}
use Rattle.graph_model.specs.declared.change.ChangeReply.{ChangeReply}
use Rattle.graph_model.specs.declared.change.ChangeReply.TheVariants.{Created, «Set», Deleted}
use Rattle.graph_model.specs.declared.refusal.LongPart.{LongPart}
use Rattle.graph_model.specs.declared.refusal.LongPart.TheVariants as part
use Rattle.graph_model.specs.declared.refusal.Side.{Side}
use Rattle.graph_model.specs.declared.refusal.Side.TheVariants as side
use Rattle.graph_model.specs.declared.refusal.EntityKind.{EntityKind}
use Rattle.graph_model.specs.declared.refusal.EntityKind.TheVariants as kind
use Rattle.graph_model.specs.declared.refusal.Quantity.{Quantity}
use Rattle.graph_model.specs.declared.refusal.Quantity.TheVariants as quantity
use Rattle.graph_model.specs.declared.refusal.Counter.{Counter}
use Rattle.graph_model.specs.declared.refusal.Counter.TheVariants as counter
use Rattle.graph_model.specs.declared.refusal.Refusal.{Refusal}
use Rattle.graph_model.specs.declared.refusal.Refusal.TheVariants as why
use Rattle.desk_model.specs.declared.job.JobKind.{JobKind}
use Rattle.desk_model.specs.declared.job.JobKind.TheVariants as stage
use Rattle.desk_model.specs.declared.lines.GraphLine.{GraphLine}
use Rattle.desk_model.specs.declared.lines.JobLine.{JobLine}
use Rattle.desk_model.specs.Replies as reply
use Rattle.desk_model.specs.Replies.{PlainReply}
use Rattle.call_codec.specs.Refusals.{row_of}

-- the name of a field behind another one
unfoldable pub field_name : List ℕ → List ℕ
field_name name = codes ",\"" ++ name ++ codes "\":"

-- the first field of an object, a number
unfoldable pub first_field : List ℕ → ℕ → List ℕ
first_field name number = codes "\"" ++ name ++ codes "\":" ++ decimal number

-- a field of an object behind another one: a number, a whole number with its sign, or a text
unfoldable pub number_field : List ℕ → ℕ → List ℕ
number_field name number = field_name name ++ decimal number

unfoldable pub whole_field : List ℕ → ℤ → List ℕ
whole_field name number = field_name name ++ signed_decimal number

unfoldable pub text_field : List ℕ → List ℕ → List ℕ
text_field name text = field_name name ++ codes "\"" ++ text ++ codes "\""

-- the words for what is too long, for a side, for a kind of element, for a quantity and for a counter
abbrev pub part_word : LongPart → List ℕ
part_word part.Head = codes "head"
part_word part.Body = codes "body"
part_word part.Line = codes "line"

abbrev pub side_word : Side → List ℕ
side_word side.Nodes = codes "nodes"
side_word side.Rels = codes "relationships"

abbrev pub kind_word : EntityKind → List ℕ
kind_word kind.Node = codes "node"
kind_word kind.Rel = codes "relationship"

abbrev pub quantity_word : Quantity → List ℕ
quantity_word quantity.Nodes = codes "nodes"
quantity_word quantity.Rels = codes "relationships"
quantity_word quantity.Values = codes "values"
quantity_word quantity.Arcs = codes "arcs"

abbrev pub counter_word : Counter → List ℕ
counter_word counter.Imports = codes "imports"
counter_word counter.Jobs = codes "jobs"
counter_word counter.Versions = codes "versions"

-- what is told of a refusal behind its number and its code
abbrev pub refusal_fields : Refusal → List ℕ
refusal_fields why.BadHttp = []
refusal_fields (why.TooLong what limit) = text_field (codes "what") (part_word what) ++ number_field (codes "limit") limit
refusal_fields why.LengthRequired = []
refusal_fields why.Transfer = []
refusal_fields why.NoSuchProcedure = []
refusal_fields why.BadJson = []
refusal_fields (why.BadArgument at row) = text_field (codes "at") at ++ number_field (codes "row") row
refusal_fields (why.GraphExists graph_name) = text_field (codes "graphName") graph_name
refusal_fields (why.NoSuchGraph graph_name) = text_field (codes "graphName") graph_name
refusal_fields (why.NoSuchLabel label) = text_field (codes "label") label
refusal_fields (why.NoSuchType rel_type) = text_field (codes "type") rel_type
refusal_fields (why.NoSuchProperty key) = text_field (codes "key") key
refusal_fields (why.MixedAggregation rel_type) = text_field (codes "type") rel_type
refusal_fields (why.SumOutOfRange rel_type key source target) =
    text_field (codes "type") rel_type ++ text_field (codes "key") key ++ number_field (codes "source") source ++ number_field (codes "target") target
refusal_fields (why.FilterSyntax filter byte) = text_field (codes "filter") (side_word filter) ++ number_field (codes "byte") byte
refusal_fields (why.FilterType filter byte) = text_field (codes "filter") (side_word filter) ++ number_field (codes "byte") byte
refusal_fields (why.NotUndirected rel_type) = text_field (codes "type") rel_type
refusal_fields (why.WeightOutOfRange source target weight) =
    number_field (codes "source") source ++ number_field (codes "target") target ++ whole_field (codes "weight") weight
refusal_fields (why.PropertyExists key) = text_field (codes "key") key
refusal_fields (why.NoSuchEntity kind id) = text_field (codes "kind") (kind_word kind) ++ number_field (codes "id") id
refusal_fields (why.JobExists job_id) = text_field (codes "jobId") job_id
refusal_fields (why.NoSuchJob job_id) = text_field (codes "jobId") job_id
refusal_fields (why.Terminated batches) = number_field (codes "batches") batches
refusal_fields (why.GraphGone graph_name had now_) =
    text_field (codes "graphName") graph_name ++ number_field (codes "had") had ++ number_field (codes "now") now_
refusal_fields (why.Full which limit batches) =
    text_field (codes "which") (quantity_word which) ++ number_field (codes "limit") limit ++ number_field (codes "batches") batches
refusal_fields (why.TooManyGraphs limit) = number_field (codes "limit") limit
refusal_fields (why.TooManyJobs limit) = number_field (codes "limit") limit
refusal_fields (why.StoreFault batches) = number_field (codes "batches") batches
refusal_fields why.Mem = []
refusal_fields (why.CounterSpent counter last) = text_field (codes "counter") (counter_word counter) ++ number_field (codes "last") last
refusal_fields (why.NotAdmin username) = text_field (codes "username") username
refusal_fields (why.AlreadyUndirected rel_type) = text_field (codes "type") rel_type
refusal_fields (why.TypeExists rel_type) = text_field (codes "type") rel_type

-- the front of the text of a refusal: its number and its code
abbrev pub refusal_head : ℕ → List ℕ → List ℕ
refusal_head number code = codes "{\"refused\":{" ++ first_field (codes "number") number ++ text_field (codes "code") code

-- the text of a refusal
abbrev pub refusal_text : Refusal → List ℕ
refusal_text why = refusal_head (row_of why).number (row_of why).code ++ refusal_fields why ++ codes "}}"

-- what a change did: how many it made from which ids on, how many pairs it set, or how many ceased to live
abbrev pub change_fields : ChangeReply → List ℕ
change_fields (Created first_node nodes first_rel rels) =
    first_field (codes "firstNode") first_node ++ number_field (codes "nodes") nodes
    ++ number_field (codes "firstRelationship") first_rel ++ number_field (codes "relationships") rels
change_fields («Set» pairs) = first_field (codes "set") pairs
change_fields (Deleted nodes rels) = first_field (codes "nodes") nodes ++ number_field (codes "relationships") rels

-- the texts of items, the first behind this text, and each later one behind a comma
abbrev pub items_behind : {A : Type 0} → (A → List ℕ) → List ℕ → List A → List ℕ
items_behind text before [] = []
items_behind text before (item ∷ items) = before ++ text item ++ items_behind text (codes ",") items

-- the texts of items in brackets
abbrev pub list_text : {A : Type 0} → (A → List ℕ) → List A → List ℕ
list_text text items = codes "[" ++ items_behind text [] items ++ codes "]"

-- the row of a node, its value in a field of this name
abbrev pub row_text : List ℕ → ℕ × ℤ → List ℕ
row_text name row = codes "{" ++ first_field (codes "nodeId") row.0 ++ whole_field name row.1 ++ codes "}"

-- the rows of a column
abbrev pub rows_text : List ℕ → List (ℕ × ℤ) → List ℕ
rows_text name rows = codes "\"rows\":" ++ list_text (row_text name) rows

-- a text in quotes
abbrev pub quoted : List ℕ → List ℕ
quoted text = codes "\"" ++ text ++ codes "\""

-- the first field of an object, a text
unfoldable pub first_text_field : List ℕ → List ℕ → List ℕ
first_text_field name text = codes "\"" ++ name ++ codes "\":\"" ++ text ++ codes "\""

-- a further field, true or false
abbrev pub flag_word : Bool → List ℕ
flag_word true = codes "true"
flag_word false = codes "false"

unfoldable pub flag_field : List ℕ → Bool → List ℕ
flag_field name flag = field_name name ++ flag_word flag

-- what is told of each named graph
abbrev pub graph_fields : GraphLine → List ℕ
graph_fields line =
    first_text_field (codes "graphName") line.name ++ number_field (codes "nodeCount") line.nodes
    ++ number_field (codes "relationshipCount") line.arcs ++ number_field (codes "version") line.version

-- a named graph as far as its node keys
abbrev pub graph_head : GraphLine → List ℕ
graph_head line = codes "{" ++ graph_fields line ++ codes ",\"nodeProperties\":"

-- a named graph with its node keys
abbrev pub graph_text : GraphLine → List ℕ
graph_text line = graph_head line ++ list_text quoted line.keys ++ codes "}"

-- named graphs
abbrev pub graphs_text : List GraphLine → List ℕ
graphs_text lines = codes "\"graphs\":" ++ list_text graph_text lines

-- the name of the job that made a graph, where it is told
abbrev pub maker_field : Option (List ℕ) → List ℕ
maker_field None = []
maker_field (Some name) = text_field (codes "jobId") name

-- the words for the stages of a job
abbrev pub stage_word : JobKind → List ℕ
stage_word stage.Making = codes "making"
stage_word stage.Running = codes "running"
stage_word stage.Writing = codes "writing"

-- what is told of a job
abbrev pub job_fields : JobLine → List ℕ
job_fields line =
    first_text_field (codes "jobId") line.name ++ text_field (codes "kind") (stage_word line.kind)
    ++ flag_field (codes "terminated") line.asked ++ number_field (codes "batches") line.batches

-- a job
abbrev pub job_text : JobLine → List ℕ
job_text line = codes "{" ++ job_fields line ++ codes "}"

-- jobs
abbrev pub jobs_text : List JobLine → List ℕ
jobs_text lines = codes "\"jobs\":" ++ list_text job_text lines

-- the fields of a reply that isn't a refusal; no call is answered with the beginning of a job, or with its end alone
abbrev pub ok_fields : PlainReply → List ℕ
ok_fields (reply.Changed answer) = change_fields answer
ok_fields (reply.Stored rows) = rows_text (codes "value") rows
ok_fields (reply.Made line) = graph_fields line ++ maker_field line.job
ok_fields (reply.Asked name) = first_text_field (codes "jobId") name
ok_fields (reply.There name found) = first_text_field (codes "graphName") name ++ flag_field (codes "exists") found
ok_fields (reply.Graphs lines) = graphs_text lines
ok_fields (reply.Rows rows) = rows_text (codes "propertyValue") rows
ok_fields (reply.JobLines lines) = jobs_text lines
ok_fields other = []

-- an accepted call with what it answers
abbrev pub ok_text : List ℕ → List ℕ
ok_text fields = codes "{\"ok\":{" ++ fields ++ codes "}}"

-- the text of a reply
abbrev pub answer_of : PlainReply → List ℕ
answer_of (reply.Refused why) = refusal_text why
answer_of other = ok_text (ok_fields other)

-- the same as a line
abbrev pub line_answer : PlainReply → List ℕ
line_answer reply = answer_of reply ++ codes "\n"
