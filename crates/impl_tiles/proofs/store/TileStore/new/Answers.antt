-- No key is held.
use Rattle.std.proofs.Common.{◌≡◌, ap, ◌∙◌}
use Rattle.std.specs.FinMap as fin
use Rattle.std.specs.FinSet as set
use Rattle.geom.specs.KeyOrder.{key_cmp}
use Rattle.tile_raster.specs.Images.{Image}
use Rattle.impl_tiles.specs.inner.Rows.{ready_of, flying_of}
use Rattle.impl_tiles.proofs.StoreSteps.{ready_empty, flying_empty}
use Rattle.impl_tiles.proofs.store.TileStore.new.Goals as goal

pub returns : goal.returns
returns c =
    let ready : ready_of c.new.result.held ≡ fin.empty {R = key_cmp} = ap ready_of c.new.ensures ∙ ready_empty Image in
    let flying : flying_of c.new.result.held ≡ set.empty {R = key_cmp} = ap flying_of c.new.ensures ∙ flying_empty Image in
    λ i. record { ready = ready i; in_flight = flying i; spare = c.new.result.spare }
