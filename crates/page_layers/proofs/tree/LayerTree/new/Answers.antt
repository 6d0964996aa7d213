use Rattle.std.proofs.Common.{ap, map, List}
use Rattle.page_properties.specs.Trees.{Trees}
use Rattle.page_layers.specs.declared.layer.Layer.{Layer}
use Rattle.page_layers.specs.Layers.{parts_of}
use Rattle.page_layers.proofs.AfterKeeps.{empty-page}
use Rattle.page_layers.proofs.tree.LayerTree.new.Goals as goal

pub invariant_of-result : goal.invariant_of-result
invariant_of-result c = empty-page _ c.requires (ap (λ (ls : List Layer). map parts_of ls) c.new-layers.ensures.items) c.new-values.ensures.items (ap (λ (t : Trees). t.scrollers) c.new-props.ensures)
