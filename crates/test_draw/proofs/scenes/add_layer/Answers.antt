-- Each quad may stand anywhere.
use Rattle.test_draw.proofs.Passes.{quads_push}
use Rattle.test_draw.proofs.scenes.add_layer.Goals as goal

pub loop-place-preserved : goal.loop-place-preserved
loop-place-preserved c = λ i. quads_push i _ _ _ c.in_ok-push.ensures.items (c.loop-place.invariant i) (c.in_ok-tile_of.ensures i)
