-- Each strip adds its rows, and each copy the next one.
use Rattle.std.proofs.Common.{arith}
use Rattle.viz_canvas.proofs.CopySteps.{row_copied}
use Rattle.viz_canvas.proofs.strip.draw_rows.Goals as goal

pub loop-done-preserved-then-fresh-done-eq0 : goal.loop-done-preserved-then-fresh-done-eq0
loop-done-preserved-then-fresh-done-eq0 g c = record {
  rows = omega arith;
  pixels =
      row_copied g.F.PixelFormat.DEPTH g.F.PixelFormat.bytes_of c.args.scene.now c.args.place.band c.args.place.at c.loop-done.done c.args.fresh.now
      c.args.bytes.now c.loop-done.bytes c.copy_down.new.bytes c.requires.place.inside c.requires.place.wide (omega arith) c.loop-done-test.true
      c.if-fresh-done-eq0.true c.requires.alike c.loop-done.invariant.pixels c.copy_down.ensures;
  ready = c.loop-done.invariant.ready;
}
