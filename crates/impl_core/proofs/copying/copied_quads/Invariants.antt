-- Copies of those so far.
use Rattle.std.proofs.Common.{◌≡◌, take}
use Rattle.viz_scene.specs.Views.{quads_view}
use Rattle.impl_core.proofs.copying.copied_quads.Given as goal

abbrev pub invariant-loop-quad : goal.invariant-loop-quad
invariant-loop-quad l = quads_view l.copies.items ≡ quads_view (take l.quad-index l.quads)
