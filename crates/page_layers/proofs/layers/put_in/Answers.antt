use Rattle.std.proofs.Common.{ap, ◌∙◌, map, List}
use Rattle.page_layers.specs.declared.layer.Layer.{Layer}
use Rattle.page_layers.specs.Layers.{parts_of}
use Rattle.page_layers.proofs.ListEdits.{map-insert}
use Rattle.page_layers.proofs.layers.put_in.Goals as goal

pub returns-clause-ok : goal.returns-clause-ok
returns-clause-ok c =
    ap (λ (ls : List Layer). map parts_of ls) c.in_ok-insert.ensures.items
    ∙ map-insert parts_of c.args.layers.now.items c.args.at c.args.layer
