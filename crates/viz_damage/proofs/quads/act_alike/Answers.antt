-- Tiles of one rect that show the same act alike.
use Rattle.std.proofs.Common.{ap}
use Rattle.viz_scene.specs.Views.{quad_view}
use Rattle.viz_damage.proofs.QuadSteps.{same_tiles}
use Rattle.viz_damage.proofs.quads.act_alike.Goals as goal

pub returns-then-is_same_rect : goal.returns-then-is_same_rect
returns-then-is_same_rect c = λ t.
    same_tiles (quad_view c.args.a.now) (quad_view c.args.b.now) c.in-Tile-Tile.image.value c.in-Tile-Tile.other.value c.deref.result.now _
    c.in-Tile-Tile.at c.in-Tile-Tile.place c.in-Tile-Tile.from c.in-Tile-Tile.start c.args.passes
    (ap quad_view c.in-Tile-Tile.is-0) (ap quad_view c.in-Tile-Tile.is-1) (c.is_same_rect.ensures c.if-is_same_rect.true)
    (c.show_one_part.ensures.from t) c.requires.fits c.deref.ensures c.deref-then-is_same_rect.ensures (c.show_one_part.ensures.images t)
