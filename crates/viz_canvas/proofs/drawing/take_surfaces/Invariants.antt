-- So far each is ready.
use Rattle.std.specs.Prelude.{◌≡◌, length, All}
use Rattle.viz_render.specs.Surfaces.{AreReady}
use Rattle.viz_canvas.proofs.drawing.take_surfaces.Given as given

abbrev pub invariant-loop : given.invariant-loop
invariant-loop l = record {
  count : length l.surfaces.items ≡ l.counter;
  ready : All (AreReady l.scene) l.surfaces.items;
}
