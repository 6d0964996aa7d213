-- The pass is drawn where the mask leaves its quads to be seen.
use Rattle.std.proofs.Common.{length}
use Rattle.viz_scene.specs.Views.{quads_view}
use Rattle.viz_render.proofs.PassSteps.{open_shown}
use Rattle.viz_render.proofs.Tiles.{narrow}
use Rattle.viz_render.proofs.passes.draw_open_pass.Goals as goal

pub returns-clause-pixels : goal.returns-clause-pixels
returns-clause-pixels c =
    open_shown c.args.area c.args.root.mask.now.tops c.args.root.number (length c.args.quads.now) c.mark_open.new.self.tops c.args.passes.now (quads_view c.args.quads.now) c.draw_pass.new.surface
    (narrow c.args.area c.requires.area) c.requires.low c.draw_pass.ensures.rect c.mark_open.ensures.numbers c.draw_pass.ensures.pixels
