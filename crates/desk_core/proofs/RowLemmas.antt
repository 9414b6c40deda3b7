-- Rows of the store that are taken one id after another.
use Rattle.std.proofs.Common.{◌≡◌, ℕ, ℤ, ◌+◌, ◌<◌, Bool, true, false, cond, eqb, List, [], ◌∷◌, ◌++◌, length, Option, Some, None, refl, sym, ap, ◌∙◌, ⊎_elim, arith}
use Rattle.std.proofs.lemmas.List.{append-nil}
use Rattle.std.specs.List.{AllByRecursion, cons_option, filter_map, find, zip}
use Rattle.std.specs.Option.{option_map, option_and_then, IfSome}
use Rattle.std.proofs.lemmas.Bool.{cases_Bool, eqb-true}
use Rattle.std.proofs.lemmas.List.Elements.{filter_map-append}
use Rattle.graph_model.specs.declared.graph.Node.{Node}
use Rattle.graph_model.specs.declared.graph.Choice.{Choice}
use Rattle.graph_model.specs.declared.graph.PropertyGraph.{PropertyGraph}
use Rattle.graph_model.specs.Graph.{is_node}
use Rattle.graph_model.specs.ById.{NodesComeById, nodes_below}
use Rattle.projection_spec.specs.RawArcs.{stored_value}
use Rattle.desk_model.specs.Step.{chosen_row, chooses, row_of}
use Rattle.desk_core.specs.Rows.{row_at, value_of_row}

-- what is found by an id has this id
find-id : (id : ℕ) (nodes : List Node) → IfSome (find (is_node id) nodes) (λ node. node.id ≡ id)
find-id id [] = tt
find-id id (node ∷ nodes) =
    ⊎_elim
    (λ (same : eqb node.id id ≡ true). rw same (eqb-true node.id id same))
    (λ (differs : eqb node.id id ≡ false). rw differs (find-id id nodes))
    (cases_Bool (eqb node.id id))

-- a row, made of its id and its value
abbrev pub of_value : ℕ → Option ℤ → Option (ℕ × ℤ)
of_value id value = option_map (λ v. (id, v)) value

row-of_value : (id : ℕ) (value : Option ℤ) → of_value id value ≡ of_value id (value_of_row (of_value id value))
row-of_value id None = refl
row-of_value id (Some v) = refl

chosen-of_value : (id : ℕ) (chosen : Bool) (value : Option ℤ) → cond chosen (of_value id value) None ≡ of_value id (value_of_row (cond chosen (of_value id value) None))
chosen-of_value id true value = row-of_value id value
chosen-of_value id false value = refl

found-of_value : (key : List ℕ) (labels : Choice) (found : Option Node) (id : ℕ) → IfSome found (λ node. node.id ≡ id) → option_and_then (chosen_row key labels) found ≡ of_value id (value_of_row (option_and_then (chosen_row key labels) found))
found-of_value key labels None id is = refl
found-of_value key labels (Some node) id is =
    rw (← is) (chosen-of_value node.id (chooses labels node) (stored_value node.props key))

-- the row of an id is made of its value
pub row_at-of_value : (key : List ℕ) (labels : Choice) (g : PropertyGraph) (id : ℕ) (value : Option ℤ) → value ≡ value_of_row (row_at key labels g id) → row_at key labels g id ≡ of_value id value
row_at-of_value key labels g id value is =
    found-of_value key labels (find (is_node id) g.nodes) id (find-id id g.nodes) ∙ ap (of_value id) (sym is)

-- the row of one node where it is found
filter_map-found : (key : List ℕ) (labels : Choice) (found : Option Node) → filter_map (chosen_row key labels) (cons_option found []) ≡ cons_option (option_and_then (chosen_row key labels) found) []
filter_map-found key labels None = refl
filter_map-found key labels (Some node) = refl

-- the rows of the nodes with ids below the next one
pub rows-next : (key : List ℕ) (labels : Choice) (g : PropertyGraph) (id : ℕ) → NodesComeById g → filter_map (chosen_row key labels) (nodes_below (id + 1) g) ≡ filter_map (chosen_row key labels) (nodes_below id g) ++ cons_option (row_at key labels g id) []
rows-next key labels g id come =
    ap (filter_map (chosen_row key labels)) (come.next id)
    ∙ filter_map-append (chosen_row key labels) (nodes_below id g) (cons_option (find (is_node id) g.nodes) [])
    ∙ ap (λ rows. filter_map (chosen_row key labels) (nodes_below id g) ++ rows) (filter_map-found key labels (find (is_node id) g.nodes))

-- rows with one more
pub zip-push : (ids : List ℕ) (values : List ℤ) (id : ℕ) (value : ℤ) → length values ≡ length ids → zip (ids ++ id ∷ []) (values ++ value ∷ []) ≡ zip ids values ++ (id, value) ∷ []
zip-push [] [] id value paired = refl
zip-push [] (v ∷ values) id value paired = absurd (omega arith)
zip-push (i ∷ ids) [] id value paired = absurd (omega arith)
zip-push (i ∷ ids) (v ∷ values) id value paired = ap (λ rows. (i, v) ∷ rows) (zip-push ids values id value (omega arith))

-- ids below one are below the next, and so is it
pub below-push : (ids : List ℕ) (id : ℕ) → AllByRecursion (λ before. before < id) ids → AllByRecursion (λ before. before < id + 1) (ids ++ id ∷ [])
below-push [] id below = (omega arith, tt)
below-push (i ∷ ids) id below = (omega (arith, below.0), below-push ids id below.1)

pub below-next : (ids : List ℕ) (id : ℕ) → AllByRecursion (λ before. before < id) ids → AllByRecursion (λ before. before < id + 1) ids
below-next [] id below = tt
below-next (i ∷ ids) id below = (omega (arith, below.0), below-next ids id below.1)

-- the rows so far, with one more where the node of an id gives one
pub row-pushed : (ids new_ids : List ℕ) (values new_values : List ℤ) (rows : List (ℕ × ℤ)) (id : ℕ) (value : ℤ) (row : Option (ℕ × ℤ)) → length values ≡ length ids → new_ids ≡ ids ++ id ∷ [] → new_values ≡ values ++ value ∷ [] → zip ids values ≡ rows → row ≡ Some (id, value) → zip new_ids new_values ≡ rows ++ cons_option row []
row-pushed ids new_ids values new_values rows id value row paired ids_are values_are rows_are row_is =
    ap (λ all. zip all new_values) ids_are
    ∙ ap (λ all. zip (ids ++ id ∷ []) all) values_are
    ∙ zip-push ids values id value paired
    ∙ ap (λ all. all ++ (id, value) ∷ []) rows_are
    ∙ ap (λ r. rows ++ cons_option r []) (sym row_is)

pub row-missing : (rows : List (ℕ × ℤ)) (row : Option (ℕ × ℤ)) → row ≡ None → rows ≡ rows ++ cons_option row []
row-missing rows row none = sym (append-nil rows) ∙ ap (λ r. rows ++ cons_option r []) (sym none)
