-- The tiles of the places so far were added; what is kept is right.
use Rattle.std.proofs.Common.{◌≡◌, ◌++◌, map, take}
use Rattle.tile_visible.specs.Visible.{key_at}
use Rattle.viz_quads.specs.ShownTiles.{tile_of}
use Rattle.cc.specs.KeptTiles.{HaveTheirImages, AreCached}
use Rattle.cc.proofs.making.push_places.Given as goal

abbrev pub invariant-loop-place : goal.invariant-loop-place
invariant-loop-place l = record {
  keys : map (λ t. t.key) (map tile_of l.tiles.items) ≡ map (λ t. t.key) (map tile_of l.fn.tiles.items) ++ map (key_at (λ _ _. 0) l.layer.id) (take l.place-index l.places);
  images : HaveTheirImages l.pages.active.now (map tile_of l.tiles.items);
  cached : AreCached l.pages.active.now l.pages.main.now l.kept.items;
}
