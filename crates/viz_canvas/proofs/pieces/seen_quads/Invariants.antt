-- What is left shows the same.
use Rattle.std.specs.Prelude.{◌≤◌, length, All}
use Rattle.viz_scene.specs.Views.{quads_view}
use Rattle.viz_canvas.specs.inner.Fresh.{IsPlaced}
use Rattle.viz_canvas.specs.inner.Pieces.{ShowAlike}
use Rattle.viz_canvas.proofs.pieces.seen_quads.Given as given

abbrev pub invariant-loop-top : given.invariant-loop-top
invariant-loop-top l = record {
  few : length l.rest ≤ length l.quads;
  placed : All IsPlaced (quads_view l.rest);
  alike : ShowAlike l.area (quads_view l.quads) (quads_view l.rest);
}

abbrev pub decreases-loop-top : given.decreases-loop-top
decreases-loop-top l = length l.rest
