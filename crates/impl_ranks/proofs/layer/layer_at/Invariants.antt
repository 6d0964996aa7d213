-- No layer so far has the id.
use Rattle.std.proofs.Common.{◌≡◌, drop}
use Rattle.impl_ranks.specs.inner.Lists.{layer_at}
use Rattle.impl_ranks.proofs.layer.layer_at.Given as goal

abbrev pub invariant-loop-layer : goal.invariant-loop-layer
invariant-loop-layer l = layer_at l.id (drop l.layer-index l.layers) ≡ layer_at l.id l.layers
