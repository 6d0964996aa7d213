use Rattle.test_draw.specs.Jobs.{CanBeAnywhere}
use Rattle.test_draw.proofs.scenes.add_layer.Given as given

abbrev pub invariant-loop-place : given.invariant-loop-place
invariant-loop-place l = CanBeAnywhere l.quads.items
