-- The part that is drawn holds the points that the rect covers.
use Rattle.viz_scene.specs.Pixels.{placed_pixel}
use Rattle.viz_render.proofs.Tiles.{tile_shown, solid_shown, hidden_whole}
use Rattle.viz_render.proofs.tile.draw_tile.Goals as goal

pub returns-clause-pixels : goal.returns-clause-pixels
returns-clause-pixels c =
    let each = rw (c.taken_part-part.ensures, c.size_of.ensures) at c.draw_part.ensures.pixels in
    tile_shown c.args.image.now c.args.at c.args.area c.args.from c.in-Some.part c.args.seen.mask.now.tops c.args.seen.number c.args.surface.now c.draw_part.new.surface c.requires.taken c.in-Some.ensures each

pub returns-in-Some-solid-clause-pixels : goal.returns-in-Some-solid-clause-pixels
returns-in-Some-solid-clause-pixels c =
    solid_shown c.args.image.now c.args.at c.args.area c.args.from c.in-Some-solid.colour c.args.seen.mask.now.tops c.args.seen.number c.args.surface.now c.draw_solid.new.surface c.requires.taken c.in-Some-solid.ensures
    c.draw_solid.ensures.pixels

pub returns-then-hides-clause-pixels : goal.returns-then-hides-clause-pixels
returns-then-hides-clause-pixels c =
    hidden_whole c.args.at c.args.area c.in-Some.part (placed_pixel c.args.image.now c.args.at c.args.from) c.args.seen.mask.now.tops c.args.seen.number c.args.surface.now c.in-Some.ensures
    (c.hides.ensures c.if-hides.true)
