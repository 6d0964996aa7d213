-- The rows so far are drawn.
use Rattle.std.specs.Prelude.{◌+◌, ◌≤◌, ◌-◌, pos}
use Rattle.viz_scene.specs.Pixels.{scene_pixel}
use Rattle.viz_render.specs.Surfaces.{AreReady}
use Rattle.viz_canvas.specs.Formats.{bytes_at}
use Rattle.viz_canvas.specs.inner.Parts.{EachOf, only_in}
use Rattle.viz_canvas.proofs.strip.draw_rows.Given as given

abbrev pub invariant-loop-done : given.invariant-loop-done
invariant-loop-done g l = record {
  rows : l.done ≤ l.fn.place.at.h;
  pixels : EachOf (bytes_at g.F.PixelFormat.DEPTH) l.fn.place.band.across l.fn.place.band.rows (only_in l.fn.place.at l.done (λ x y below. g.F.PixelFormat.bytes_of (scene_pixel l.scene (pos x) (pos (l.fn.place.band.top + y))))) l.initial.bytes l.bytes;
  ready : AreReady l.scene l.surfaces;
}

abbrev pub decreases-loop-done : given.decreases-loop-done
decreases-loop-done g l = l.fn.place.at.h - l.done
