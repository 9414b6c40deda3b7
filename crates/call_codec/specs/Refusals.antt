-- The table of refusals: the number, the code, and the status of the answer over HTTP.
use Rattle.std.specs.Prelude.{ℕ, List, codes}
use Rattle.graph_model.specs.declared.refusal.Refusal.{Refusal}
use Rattle.graph_model.specs.declared.refusal.Refusal.TheVariants as why
use Rattle.desk_model.specs.Replies.{PlainReply, Refused}

-- how a refusal is numbered and called, and the status of its answer
pub record RefusalRow : Type 0 where
  pub number : ℕ
  pub code : List ℕ
  pub status : ℕ

abbrev pub numbered : ℕ → List ℕ → ℕ → RefusalRow
numbered number code status = record { number = number; code = code; status = status }

-- the row of a refusal, in the order of their numbers
abbrev pub row_of : Refusal → RefusalRow
row_of why.BadHttp = numbered 1 (codes "BadHttp") 400
row_of (why.TooLong what limit) = numbered 2 (codes "TooLong") 413
row_of why.LengthRequired = numbered 3 (codes "LengthRequired") 411
row_of why.Transfer = numbered 4 (codes "Transfer") 501
row_of why.NoSuchProcedure = numbered 5 (codes "NoSuchProcedure") 404
row_of why.BadJson = numbered 6 (codes "BadJson") 400
row_of (why.BadArgument at row) = numbered 7 (codes "BadArgument") 400
row_of (why.GraphExists graph_name) = numbered 8 (codes "GraphExists") 409
row_of (why.NoSuchGraph graph_name) = numbered 9 (codes "NoSuchGraph") 404
row_of (why.NoSuchLabel label) = numbered 10 (codes "NoSuchLabel") 422
row_of (why.NoSuchType rel_type) = numbered 11 (codes "NoSuchType") 422
row_of (why.NoSuchProperty key) = numbered 12 (codes "NoSuchProperty") 422
row_of (why.MixedAggregation rel_type) = numbered 13 (codes "MixedAggregation") 422
row_of (why.SumOutOfRange rel_type key source target) = numbered 14 (codes "SumOutOfRange") 422
row_of (why.FilterSyntax filter byte) = numbered 15 (codes "FilterSyntax") 422
row_of (why.FilterType filter byte) = numbered 16 (codes "FilterType") 422
row_of (why.NotUndirected rel_type) = numbered 17 (codes "NotUndirected") 422
row_of (why.WeightOutOfRange source target weight) = numbered 18 (codes "WeightOutOfRange") 422
row_of (why.PropertyExists key) = numbered 19 (codes "PropertyExists") 409
row_of (why.NoSuchEntity kind id) = numbered 20 (codes "NoSuchEntity") 422
row_of (why.JobExists job_id) = numbered 21 (codes "JobExists") 409
row_of (why.NoSuchJob job_id) = numbered 22 (codes "NoSuchJob") 404
row_of (why.Terminated batches) = numbered 23 (codes "Terminated") 409
row_of (why.GraphGone graph_name had now_) = numbered 24 (codes "GraphGone") 409
row_of (why.Full which limit batches) = numbered 25 (codes "Full") 409
row_of (why.TooManyGraphs limit) = numbered 26 (codes "TooManyGraphs") 409
row_of (why.TooManyJobs limit) = numbered 27 (codes "TooManyJobs") 409
row_of (why.StoreFault batches) = numbered 28 (codes "StoreFault") 503
row_of why.Mem = numbered 29 (codes "Mem") 507
row_of (why.CounterSpent counter last) = numbered 30 (codes "CounterSpent") 409
row_of (why.NotAdmin username) = numbered 31 (codes "NotAdmin") 403
row_of (why.AlreadyUndirected rel_type) = numbered 32 (codes "AlreadyUndirected") 409
row_of (why.TypeExists rel_type) = numbered 33 (codes "TypeExists") 409

-- the status of a reply: that of its refusal, else 200
abbrev pub status_of : PlainReply → ℕ
status_of (Refused why) = (row_of why).status
status_of other = 200
