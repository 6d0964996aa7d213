use Rattle.std.proofs.Common.{All, subst}
use Rattle.std.specs.Prelude.{IsTrue}
use Rattle.geom.specs.declared.tile.Place.{Place}
use Rattle.geom.specs.Grids.{has}
use Rattle.page_layers.proofs.KeptPages.{weaken}
use Rattle.impl_ranks.specs.SeenTrees.{SeenLayerModel}
use Rattle.impl_ranks.proofs.GridPlaces.{touching_all}
use Rattle.impl_ranks.proofs.layer.SeenLayer.places_near.Goals as goal

pub returns-clause-there : goal.returns-clause-there
returns-clause-there c =
    weaken c.places_touching.result
    (λ v e. subst (λ (z : SeenLayerModel). All (λ (p : Place). IsTrue (has z.grid p)) v.items) c.self.view_is (touching_all c.self.inside.grid c.moved_back.result v.items e))
    c.places_touching.ensures
