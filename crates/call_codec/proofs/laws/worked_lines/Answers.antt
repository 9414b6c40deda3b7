use Rattle.std.proofs.Common.{refl}
use Rattle.std.specs.Str.{is_utf8, chars}
use Rattle.serde_json.proofs.OnLiterals.{serde_json_on_literals}
use Rattle.call_codec.proofs.laws.worked_lines.Goals as goal

pub returns-clause-small_store : goal.returns-clause-small_store
unfolding is_utf8 chars serde_json_on_literals
returns-clause-small_store c = refl

pub returns-clause-deletion : goal.returns-clause-deletion
unfolding is_utf8 chars serde_json_on_literals
returns-clause-deletion c = refl

pub returns-clause-no_json : goal.returns-clause-no_json
unfolding is_utf8 chars serde_json_on_literals
returns-clause-no_json c = refl

pub returns-clause-no_object : goal.returns-clause-no_object
unfolding is_utf8 chars serde_json_on_literals
returns-clause-no_object c = refl

pub returns-clause-procedure_first : goal.returns-clause-procedure_first
unfolding is_utf8 chars serde_json_on_literals
returns-clause-procedure_first c = refl

pub returns-clause-no_args : goal.returns-clause-no_args
unfolding is_utf8 chars serde_json_on_literals
returns-clause-no_args c = refl

pub returns-clause-unknown : goal.returns-clause-unknown
unfolding is_utf8 chars serde_json_on_literals
returns-clause-unknown c = refl

pub returns-clause-lines : goal.returns-clause-lines
unfolding is_utf8 chars serde_json_on_literals
returns-clause-lines c = refl

pub returns-clause-waiting : goal.returns-clause-waiting
unfolding is_utf8 chars serde_json_on_literals
returns-clause-waiting c = refl
