use Rattle.std.specs.Prelude.{◌≡◌, ◌*◌, length}
use Rattle.viz_render.specs.inner.Drawing.{AreRoomy}
use Rattle.viz_render.proofs.pass_surfaces.inner_surfaces.Given as given

abbrev pub invariant-loop : given.invariant-loop
invariant-loop l = record {
  count : length l.surfaces.items ≡ l.counter;
  room : AreRoomy (4 * l.pixels) l.surfaces.items;
}
