-- How many arcs the types of a projection have.
use Rattle.std.proofs.Common.{◌≡◌, ℕ, ◌+◌, List, [], ◌∷◌, map, sym, refl, ap, ◌∙◌}
use Rattle.std.specs.List.{enumerate_from, sum_by}
use Rattle.std.proofs.lemmas.List.{length-map}
use Rattle.std.proofs.lemmas.List.FromFn.{length-enumerate_from}
use Rattle.std.proofs.lemmas.List.Sums.{sum_by-cons}
use Rattle.graph_model.specs.Projection.{type_arc_count}
use Rattle.csr_columns.specs.declared.parts.TypeColumns.{TypeColumns}
use Rattle.csr_columns.specs.Rows.{arcs_of as row_arcs}
use Rattle.csr_columns.specs.Parts.{arcs_in, arcs_in_type}
use Rattle.csr_columns.specs.Plain.{plain_type}
use Rattle.csr_columns.proofs.Taken.{length-arcs_of}

type-count : (ids : List ℕ) (type : TypeColumns) → type_arc_count (plain_type ids type) ≡ arcs_in_type type
type-count ids type =
    length-map (enumerate_from 0 (row_arcs type.arcs.rows)) _
    ∙ length-enumerate_from 0 (row_arcs type.arcs.rows)
    ∙ length-arcs_of type.arcs.rows

pub types-count : (ids : List ℕ) (types : List TypeColumns) → sum_by type_arc_count (map (plain_type ids) types) ≡ arcs_in types
types-count ids [] = refl
types-count ids (type ∷ types) =
    sum_by-cons type_arc_count (plain_type ids type) (map (plain_type ids) types)
    ∙ ap (λ n. n + sum_by type_arc_count (map (plain_type ids) types)) (type-count ids type)
    ∙ ap (λ n. arcs_in_type type + n) (types-count ids types)
    ∙ sym (sum_by-cons arcs_in_type type types)
