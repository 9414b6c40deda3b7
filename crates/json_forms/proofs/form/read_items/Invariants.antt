use Rattle.std.proofs.Common.{◌≡◌, drop}
use Rattle.std.specs.List.{AllByRecursion}
use Rattle.serde_json.specs.View.{items_view}
use Rattle.json_forms.specs.Forms.{read_items}
use Rattle.json_forms.proofs.ItemLemmas.{behind}
use Rattle.json_forms.proofs.form.read_items.Given as goal

abbrev pub invariant-loop-value : goal.invariant-loop-value
invariant-loop-value g l = record {
  so_far :
      read_items g.T.Form.reads (items_view l.items)
      ≡ behind l.parts (read_items g.T.Form.reads (items_view (drop l.value-index l.items)));
  formed : AllByRecursion g.T.Form.is_formed l.parts;
}
