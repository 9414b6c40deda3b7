use Rattle.std.proofs.Common.{◌≡◌, List, ℕ, Option, Some, None, MatchOption, length, sym, ◌∙◌}
use Rattle.std.specs.Option.{is_some}
use Rattle.graph_model.specs.Projection.{is_among}
use Rattle.csr_columns.specs.Offsets.{IsUnnamed, IsFirstNamed}
use Rattle.csr_columns.proofs.WithColumn.{is_among-unnamed, is_among-named}
use Rattle.csr_columns.proofs.columns.is_among.Goals as goal

found : (names : List (List ℕ)) (name : List ℕ) (place : Option ℕ) → MatchOption place (IsUnnamed names name (length names)) (IsFirstNamed names name) → is_some place ≡ is_among names name
found names name None absent = sym (is_among-unnamed names name absent)
found names name (Some place) first = sym (is_among-named names name place first.0 first.1)

pub returns : goal.returns
returns c = c.is_some.ensures ∙ found c.args.names.now c.args.name.now c.place_of.result c.place_of.ensures
