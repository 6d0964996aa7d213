-- A layer more is copied, and at the end all are.
use Rattle.std.proofs.Common.{map, ap, ◌∙◌}
use Rattle.std.proofs.lemmas.List.{take_all}
use Rattle.page_layers.specs.Layers.{parts_of}
use Rattle.page_layers.proofs.MappedLists.{mapped_more}
use Rattle.page_layers.proofs.tree.copy_layers.Goals as goal

pub loop-layer-preserved : goal.loop-layer-preserved
loop-layer-preserved c =
    mapped_more parts_of parts_of c.loop-layer.copies.items c.push.new.self.items c.in_ok-copy.copy c.args.layers.now c.loop-layer.layer-index c.layer-item.result
    c.in_ok-push.ensures.items c.loop-layer-test.true c.layer-item.is c.in_ok-copy.ensures c.loop-layer.invariant

pub returns : goal.returns
returns c = c.loop-layer.invariant ∙ ap (map parts_of) (take_all c.loop-layer.layer-index c.args.layers.now c.loop-layer-test.false)
