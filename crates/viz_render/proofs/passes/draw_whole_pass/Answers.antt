-- Outside of the hull the pass is transparent.
use Rattle.std.proofs.Common.{length, arith}
use Rattle.page_display_list.specs.Bitmaps.{near}
use Rattle.pixel.specs.Colours.{clear}
use Rattle.viz_scene.specs.Views.{quads_view}
use Rattle.viz_render.proofs.PassSteps.{pass_shown, all_seen}
use Rattle.viz_render.proofs.SceneSteps.{strip_size}
use Rattle.viz_render.proofs.Tiles.{narrow}
use Rattle.viz_render.proofs.passes.draw_whole_pass.Goals as goal

pub draw_pass-requires-clause-room : goal.draw_pass-requires-clause-room
draw_pass-requires-clause-room c =
    let fit = strip_size (near c.hull_of-hull.result.w) (near c.hull_of-hull.result.h) (near c.args.area.w) (near c.args.area.h) c.hull_of-hull.ensures.narrow c.hull_of-hull.ensures.low in
    omega arith

pub returns-clause-pixels : goal.returns-clause-pixels
returns-clause-pixels c =
    let wide = narrow c.args.area c.requires.area in
    pass_shown c.args.area c.hull_of-hull.result c.args.passes.now (quads_view c.args.quads.now) c.draw_pass.new.surface c.draw_pass.ensures.rect
    (all_seen (length c.args.quads.now) c.hull_of-hull.result c.mark.new.self.tops c.args.passes.now clear (quads_view c.args.quads.now) c.draw_pass.new.surface.bytes
    (omega (arith, c.hull_of-hull.ensures.narrow)) (omega (arith, c.hull_of-hull.ensures.low)) c.mark.ensures.numbers c.draw_pass.ensures.pixels)
    c.hull_of-hull.ensures.outside
