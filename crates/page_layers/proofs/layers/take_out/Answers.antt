use Rattle.std.proofs.Common.{ap, ◌∙◌, map, List}
use Rattle.page_layers.specs.declared.layer.Layer.{Layer}
use Rattle.page_layers.specs.Layers.{parts_of}
use Rattle.page_layers.proofs.LayerPlaces.{removed_is}
use Rattle.page_layers.proofs.layers.take_out.Goals as goal

pub returns : goal.returns
returns c = λ id at. ap (λ (ls : List Layer). map parts_of ls) c.remove.ensures.items ∙ removed_is id c.args.place c.args.layers.now.items at
