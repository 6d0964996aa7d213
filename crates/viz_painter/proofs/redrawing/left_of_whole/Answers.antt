-- Nothing lies outside of the screen.
use Rattle.viz_painter.specs.inner.Rests.{rest_in}
use Rattle.viz_painter.proofs.Redrawn.{nothing_outside, nothing_had}
use Rattle.viz_painter.proofs.redrawing.left_of_whole.Goals as goal

pub returns-clause-rest : goal.returns-clause-rest
returns-clause-rest g c =
    nothing_outside g.F.PixelFormat.DEPTH g.F.PixelFormat.bytes_of c.args.scene.now (rest_in c.in_ok-left.left.damage c.in_ok-left.left.moved) c.fit.new.canvas
    c.in_ok-fit.ensures c.in_ok-left.ensures.rest

pub returns-clause-damage : goal.returns-clause-damage
returns-clause-damage g c =
    nothing_had g.F.PixelFormat.DEPTH g.F.PixelFormat.bytes_of c.args.scene.now c.in_ok-left.left.damage c.args.canvas.now c.in_ok-left.ensures.damage
