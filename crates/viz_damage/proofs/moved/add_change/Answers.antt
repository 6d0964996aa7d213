-- A tile that moved, or two quads whose areas are damaged.
use Rattle.std.proofs.Common.{ap, length}
use Rattle.viz_scene.specs.Views.{quad_view}
use Rattle.viz_damage.proofs.MovedSteps.{moved_tiles, both_damaged}
use Rattle.viz_damage.proofs.moved.add_change.Goals as goal

pub returns-then-are_same_images-clause-changes : goal.returns-then-are_same_images-clause-changes
returns-then-are_same_images-clause-changes c =
    moved_tiles c.args.reaches.now c.add_moved.new.damage.items (quad_view c.args.old.now) (quad_view c.args.new.now) c.in-Tile-Tile.image.value c.in-Tile-Tile.other.value
    _ _ _ c.in-Tile-Tile.at c.in-Tile-Tile.place c.in-Tile-Tile.from c.in-Tile-Tile.start (length c.args.reaches.now)
    (ap quad_view c.in-Tile-Tile.is-0) (ap quad_view c.in-Tile-Tile.is-1) c.requires.new c.deref-then-share_columns.ensures c.deref-then-share_columns-2.ensures c.deref-then-are_same_images.ensures
    (c.are_same_images.ensures c.if-are_same_images.true) c.in_ok-add_moved.ensures.alike

pub returns-clause-changes : goal.returns-clause-changes
returns-clause-changes c =
    both_damaged c.args.reaches.now c.args.damage.now.items c.add_area.new.damage.items c.add_area-2.new.damage.items (quad_view c.args.old.now) (quad_view c.args.new.now)
    c.area_of.result c.area_of-2.result c.area_of.ensures.within c.area_of-2.ensures.within c.in_ok-add_area.ensures.held c.in_ok-add_area-2.ensures.held
