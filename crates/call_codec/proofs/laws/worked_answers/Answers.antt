use Rattle.std.proofs.Common.{refl}
use Rattle.std.specs.Fmt.{digits}
use Rattle.call_codec.specs.Answers.{field_name, first_field, number_field, whole_field, text_field, first_text_field, flag_field}
use Rattle.call_codec.proofs.laws.worked_answers.Goals as goal

pub returns-clause-created : goal.returns-clause-created
unfolding digits field_name first_field number_field whole_field text_field
returns-clause-created c = refl

pub returns-clause-set : goal.returns-clause-set
unfolding digits field_name first_field number_field whole_field text_field
returns-clause-set c = refl

pub returns-clause-deleted : goal.returns-clause-deleted
unfolding digits field_name first_field number_field whole_field text_field
returns-clause-deleted c = refl

pub returns-clause-rows : goal.returns-clause-rows
unfolding digits field_name first_field number_field whole_field text_field
returns-clause-rows c = refl

pub returns-clause-no_rows : goal.returns-clause-no_rows
unfolding digits field_name first_field number_field whole_field text_field
returns-clause-no_rows c = refl

pub returns-clause-bad_json : goal.returns-clause-bad_json
unfolding digits field_name first_field number_field whole_field text_field
returns-clause-bad_json c = refl

pub returns-clause-too_long : goal.returns-clause-too_long
unfolding digits field_name first_field number_field whole_field text_field
returns-clause-too_long c = refl

pub returns-clause-argument : goal.returns-clause-argument
unfolding digits field_name first_field number_field whole_field text_field
returns-clause-argument c = refl

pub returns-clause-sum : goal.returns-clause-sum
unfolding digits field_name first_field number_field whole_field text_field
returns-clause-sum c = refl

pub returns-clause-filter : goal.returns-clause-filter
unfolding digits field_name first_field number_field whole_field text_field
returns-clause-filter c = refl

pub returns-clause-weight : goal.returns-clause-weight
unfolding digits field_name first_field number_field whole_field text_field
returns-clause-weight c = refl

pub returns-clause-entity : goal.returns-clause-entity
unfolding digits field_name first_field number_field whole_field text_field
returns-clause-entity c = refl

pub returns-clause-full : goal.returns-clause-full
unfolding digits field_name first_field number_field whole_field text_field
returns-clause-full c = refl

pub returns-clause-counter : goal.returns-clause-counter
unfolding digits field_name first_field number_field whole_field text_field
returns-clause-counter c = refl

pub returns-clause-fault : goal.returns-clause-fault
unfolding digits field_name first_field number_field whole_field text_field
returns-clause-fault c = refl

pub returns-clause-memory : goal.returns-clause-memory
unfolding digits field_name first_field number_field whole_field text_field
returns-clause-memory c = refl

pub returns-clause-made : goal.returns-clause-made
unfolding digits field_name first_field number_field whole_field text_field first_text_field flag_field
returns-clause-made c = refl

pub returns-clause-asked : goal.returns-clause-asked
unfolding digits field_name first_field number_field whole_field text_field first_text_field flag_field
returns-clause-asked c = refl

pub returns-clause-there : goal.returns-clause-there
unfolding digits field_name first_field number_field whole_field text_field first_text_field flag_field
returns-clause-there c = refl

pub returns-clause-graphs : goal.returns-clause-graphs
unfolding digits field_name first_field number_field whole_field text_field first_text_field flag_field
returns-clause-graphs c = refl

pub returns-clause-graph_rows : goal.returns-clause-graph_rows
unfolding digits field_name first_field number_field whole_field text_field first_text_field flag_field
returns-clause-graph_rows c = refl

pub returns-clause-jobs : goal.returns-clause-jobs
unfolding digits field_name first_field number_field whole_field text_field first_text_field flag_field
returns-clause-jobs c = refl
