use Rattle.std.proofs.Common.{All, sym, ◌∙◌, subst}
use Rattle.std.specs.Prelude.{IsTrue}
use Rattle.geom.specs.declared.tile.Place.{Place}
use Rattle.geom.specs.Grids.{has}
use Rattle.geom.specs.Sides.{Sides}
use Rattle.impl_ranks.proofs.GridPlaces.{touching_all}
use Rattle.impl_ranks.proofs.layer.SeenLayer.push_visible.Goals as goal

pub push_keys-requires : goal.push_keys-requires
push_keys-requires c =
    subst (λ (g : Sides). All (λ (p : Place). IsTrue (has g p)) c.as_slice.result.now) (sym c.self.invariant.4)
    (touching_all c.self.inside.grid c.self.inside.clip_inside c.as_slice.result.now (c.as_slice.ensures.value ∙ c.in_ok-places.ensures))
