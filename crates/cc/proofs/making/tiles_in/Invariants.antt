-- The tiles of the layers so far were added; what is kept is right.
use Rattle.std.proofs.Common.{◌≡◌, map, take}
use Rattle.std.specs.List.{flat_map}
use Rattle.page_properties.specs.OffsetMap.{offset_at}
use Rattle.page_layers.specs.Layers.{parts_of}
use Rattle.tile_visible.specs.Visible.{key_at, visible_places}
use Rattle.viz_quads.specs.ShownTiles.{tile_of}
use Rattle.cc.specs.KeptTiles.{HaveTheirImages, AreCached}
use Rattle.cc.proofs.making.tiles_in.Given as goal

abbrev pub invariant-loop-one : goal.invariant-loop-one
invariant-loop-one l = record {
  keys : map (λ t. t.key) (map tile_of l.tiles.items) ≡ flat_map (λ k. map (key_at (λ _ _. 0) k.id) (visible_places l.pages.active.now (offset_at l.offsets) k)) (map (λ o. parts_of o.layer.now) (take l.one-index l.layers));
  images : HaveTheirImages l.pages.active.now (map tile_of l.tiles.items);
  cached : AreCached l.pages.active.now l.pages.main.now l.kept.items;
}
