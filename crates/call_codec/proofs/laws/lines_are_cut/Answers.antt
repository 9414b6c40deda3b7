use Rattle.call_codec.proofs.LineLemmas.{first_line_is_cut, last_line_waits, pieces_are_joined, rests_are_joined}
use Rattle.call_codec.proofs.laws.lines_are_cut.Goals as goal

pub returns-clause-cut : goal.returns-clause-cut
returns-clause-cut c = first_line_is_cut

pub returns-clause-waits : goal.returns-clause-waits
returns-clause-waits c = last_line_waits

pub returns-clause-pieces : goal.returns-clause-pieces
returns-clause-pieces c = pieces_are_joined

pub returns-clause-rests : goal.returns-clause-rests
returns-clause-rests c = rests_are_joined
