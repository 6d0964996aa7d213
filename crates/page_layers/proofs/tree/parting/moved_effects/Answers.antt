use Rattle.page_layers.proofs.LayerPlaces.{moved_effects}
use Rattle.page_layers.proofs.tree.parting.moved_effects.Goals as goal

pub returns : goal.returns
returns c = λ id stands. moved_effects id c.args.place c.args.at c.args.layers.now c.in_ok-effects.effects.items c.remove-effect.new.self.items c.insert.new.self.items c.remove-effect.result stands c.in_ok-effects.ensures c.remove-effect.ensures.value c.remove-effect.ensures.items c.in_ok-insert.ensures.items
