use Rattle.std.proofs.Common.{List, map, ap, ◌∙◌}
use Rattle.page_layers.specs.Layers.{PageLayer, parts_of}
use Rattle.page_layers.proofs.LayerPlaces.{effects-view, not_moved}
use Rattle.page_layers.proofs.KeptPages.{weaken}
use Rattle.page_layers.proofs.tree.parting.effects_moved.Goals as goal

pub returns-in-Some : goal.returns-in-Some
returns-in-Some c = weaken c.moved_effects.result (λ v h. h c.args.id c.in-Some.ensures) c.moved_effects.ensures

pub returns-in-None : goal.returns-in-None
returns-in-None c = weaken c.effects_of.result (λ v h. h ∙ effects-view c.args.layers.now ∙ ap (λ (ls : List PageLayer). map (λ (l : PageLayer). l.effect) ls) (not_moved c.args.id c.args.at (map parts_of c.args.layers.now) c.in-None.ensures)) c.effects_of.ensures
