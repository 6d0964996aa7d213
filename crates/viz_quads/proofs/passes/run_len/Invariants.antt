-- The layers so far lie in the group.
use Rattle.std.proofs.Common.{◌≡◌, ◌+◌, drop}
use Rattle.std.specs.List.{prefix_len}
use Rattle.page_layers.specs.inner.Runs.{lies_in}
use Rattle.viz_quads.specs.inner.Passes.{groups_of}
use Rattle.viz_quads.proofs.passes.run_len.Given as goal

abbrev pub invariant-loop-layer : goal.invariant-loop-layer
invariant-loop-layer l = (l.len ≡ l.layer-index) × (l.len + prefix_len (lies_in groups_of l.depth l.effect) (drop l.layer-index l.layers) ≡ prefix_len (lies_in groups_of l.depth l.effect) l.layers)
