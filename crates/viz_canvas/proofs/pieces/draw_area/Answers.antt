-- The scene shows the quads of its root alone.
use Rattle.std.specs.Prelude.{All}
use Rattle.viz_scene.specs.Views.{pass_view}
use Rattle.viz_canvas.specs.inner.Fresh.{IsPlaced}
use Rattle.viz_canvas.proofs.FreshSteps.{scene_placed}
use Rattle.viz_canvas.proofs.PieceSteps.{all_last, root_shows}
use Rattle.viz_canvas.proofs.pieces.draw_area.Goals as goal

pub draw_below-requires-clause-placed : goal.draw_below-requires-clause-placed
draw_below-requires-clause-placed g c =
    rw (c.as_slice-quads.ensures.value)
    (all_last (All IsPlaced) pass_view c.passes.result.now _ c.in-Some.root.now c.in-Some.ensures.cases.0
    (rw c.passes.ensures.value (scene_placed c.args.scene.now c.passes.ensures.sound)))

pub draw_below-requires-clause-shown : goal.draw_below-requires-clause-shown
draw_below-requires-clause-shown g c =
    rw (c.as_slice-quads.ensures.value)
    (root_shows c.args.scene.now c.args.band c.args.at c.passes.result.now _ c.in-Some.root.now c.passes.ensures.value c.in-Some.ensures.cases.0)
