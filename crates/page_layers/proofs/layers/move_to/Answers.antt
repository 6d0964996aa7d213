use Rattle.page_layers.proofs.LayerPlaces.{moved_is}
use Rattle.page_layers.proofs.layers.move_to.Goals as goal

pub returns : goal.returns
returns c = λ id at. moved_is id c.args.place c.args.at c.args.layers.now.items c.remove-layer.new.self.items c.insert.new.self.items c.remove-layer.result at c.remove-layer.ensures.value c.remove-layer.ensures.items c.in-Ok.ensures.items
