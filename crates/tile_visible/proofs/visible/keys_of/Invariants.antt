-- The keys of the layers so far were added.
use Rattle.std.proofs.Common.{◌≡◌, map, take}
use Rattle.std.specs.List.{flat_map}
use Rattle.page_properties.specs.OffsetMap.{offset_at}
use Rattle.page_layers.specs.Layers.{parts_of}
use Rattle.tile_visible.specs.Visible.{key_at, visible_places}
use Rattle.tile_visible.proofs.visible.keys_of.Given as goal

abbrev pub invariant-loop-one : goal.invariant-loop-one
invariant-loop-one l = l.keys ≡ flat_map (λ k. map (key_at (λ _ _. l.stamp) k.id) (visible_places l.tree (offset_at l.offsets) k)) (map (λ o. parts_of o.layer.now) (take l.one-index l.layers))
