use Rattle.std.proofs.Common.{◌≡◌, ◌+◌, drop}
use Rattle.std.specs.List.{prefix_len}
use Rattle.page_layers.specs.inner.Runs.{lies_in}
use Rattle.page_layers.specs.inner.LayerSamples.{groups_of}
use Rattle.page_layers.proofs.paint.run_len.Given as goal

abbrev pub invariant-loop-sample : goal.invariant-loop-sample
invariant-loop-sample l = (l.len ≡ l.sample-index) × (l.len + prefix_len (lies_in groups_of l.depth l.effect) (drop l.sample-index l.samples) ≡ prefix_len (lies_in groups_of l.depth l.effect) l.samples)
