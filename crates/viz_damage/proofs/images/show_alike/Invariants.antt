-- The items so far show the same.
use Rattle.std.specs.Prelude.{take}
use Rattle.tile_raster.specs.Images.{ShowAlike}
use Rattle.viz_damage.proofs.images.show_alike.Given as given

abbrev pub invariant-loop-place : given.invariant-loop-place
invariant-loop-place l = ShowAlike l.rect (take l.place l.items) (take l.place l.others)
