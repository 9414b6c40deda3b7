use Rattle.std.proofs.Common.{◌≡◌, ◌<◌, length, get_or}
use Rattle.store_tables.specs.Counted.{own_name, prop_key, times}
use Rattle.store_tables.proofs.CensusLemmas.{fewer-more}
use Rattle.store_tables.proofs.census.Census.without.Goals as goal

pub loop-element-preserved : goal.loop-element-preserved
loop-element-preserved g c =
    let gone = c.args.gone.now in
    let row = c.loop-element.element-index in
    let item = c.element-item.result in
    let within : row < length gone = rw (← c.as_slice-element-items.ensures.value) c.loop-element-test.true in
    let is : item ≡ get_or gone row item = rw c.as_slice-element-items.ensures.value at c.element-item.is in (
      λ name. fewer-more (λ element. times own_name (g.E.Element.classes_of element) name) gone row c.get.result.now item _ _ _ within is c.get.ensures (c.loop-element.invariant.0 name) (c.in_ok-census-2.ensures.classes name),
      λ name. fewer-more (λ element. times prop_key (g.E.Element.props_of element) name) gone row c.get.result.now item _ _ _ within is c.get.ensures (c.loop-element.invariant.1 name) (c.in_ok-census-2.ensures.keys name),
    )
