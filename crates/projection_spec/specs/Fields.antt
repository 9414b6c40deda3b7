-- What clauses see of an entry and of a projection, and what holds of each.
--   RelFields, SpecFields      the fields of a relationship entry and of a projection
--   HasFittingRules grouped props     what each relationship entry keeps
--   HasAscendingNames nodes rels      what each projection keeps
use Rattle.std.specs.Prelude.{◌≡◌, ◌≢◌, ℕ, Bool, true, false, List, Option, None, Some}
use Rattle.std.specs.List.{AllByRecursion}
use Rattle.graph_model.specs.Lists.{Pairwise}
use Rattle.graph_model.specs.Names.{IsBefore}
use Rattle.graph_model.specs.declared.graph.Orientation.{Orientation}
use Rattle.projection_spec.specs.declared.entries.Rule.{Rule}
use Rattle.projection_spec.specs.declared.entries.Rule.TheVariants.{Keep, Count}
use Rattle.projection_spec.specs.declared.entries.NodeProp.{NodeProp}
use Rattle.projection_spec.specs.declared.entries.NodeEntry.{NodeEntry}
use Rattle.projection_spec.specs.declared.entries.RelProp.{RelProp}

-- the fields of a relationship entry
pub record RelFields : Type 0 where
  pub kind : List ℕ
  pub store : Option (List ℕ)
  pub orientation : Orientation
  pub grouped : Bool
  pub props : List RelProp

-- the fields of a projection
pub record SpecFields : Type 0 where
  pub nodes : List NodeEntry
  pub rels : List RelFields

-- a rule that groups stands in an entry that groups its arcs, and Keep in one that doesn't
abbrev pub FitsGroups : Bool → Rule → Type 0
FitsGroups true rule = rule ≢ Keep
FitsGroups false rule = rule ≡ Keep

-- where there is no key of the store, relationships are counted
abbrev pub FitsStore : Option (List ℕ) → Rule → Type 0
FitsStore None rule = rule ≡ Count
FitsStore (Some key) rule = Unit {0}

-- the rule of a key fits its entry and its key in the store
abbrev pub HasFittingRule : Bool → RelProp → Type 0
HasFittingRule grouped prop = FitsGroups grouped prop.rule × FitsStore prop.store prop.rule

-- the rule of each key fits
abbrev pub HasFittingRules : Bool → List RelProp → Type 0
HasFittingRules grouped props = AllByRecursion (HasFittingRule grouped) props

-- a projected label, key or type comes before another
abbrev pub LabelBefore : NodeEntry → NodeEntry → Type 0
LabelBefore a b = IsBefore a.label b.label

abbrev pub NodeKeyBefore : NodeProp → NodeProp → Type 0
NodeKeyBefore a b = IsBefore a.key b.key

abbrev pub KindBefore : RelFields → RelFields → Type 0
KindBefore a b = IsBefore a.kind b.kind

abbrev pub RelKeyBefore : RelProp → RelProp → Type 0
RelKeyBefore a b = IsBefore a.key b.key

-- the keys of an entry ascend without repeats
abbrev pub HasAscendingNodeKeys : NodeEntry → Type 0
HasAscendingNodeKeys entry = Pairwise NodeKeyBefore entry.props

abbrev pub HasAscendingRelKeys : RelFields → Type 0
HasAscendingRelKeys entry = Pairwise RelKeyBefore entry.props

-- entries ascend by projected name, and the keys of each ascend, without repeats
pub record HasAscendingNames (nodes : List NodeEntry) (rels : List RelFields) : Type 0 where
  pub labels : Pairwise LabelBefore nodes
  pub kinds : Pairwise KindBefore rels
  pub node_keys : AllByRecursion HasAscendingNodeKeys nodes
  pub rel_keys : AllByRecursion HasAscendingRelKeys rels
