use Rattle.test_draw.specs.Jobs.{CanBeAnywhere}
use Rattle.test_draw.proofs.scenes.flat.Given as given

abbrev pub invariant-loop-layer : given.invariant-loop-layer
invariant-loop-layer l = CanBeAnywhere l.quads.items
