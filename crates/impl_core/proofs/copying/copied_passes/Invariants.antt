-- Copies of those so far.
use Rattle.std.proofs.Common.{◌≡◌, take}
use Rattle.viz_scene.specs.Views.{passes_view}
use Rattle.impl_core.proofs.copying.copied_passes.Given as goal

abbrev pub invariant-loop-pass : goal.invariant-loop-pass
invariant-loop-pass l = passes_view l.copies.items ≡ passes_view (take l.pass-index l.passes)
