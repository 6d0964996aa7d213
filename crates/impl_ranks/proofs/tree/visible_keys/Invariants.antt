-- The keys of the layers so far were added.
use Rattle.std.proofs.Common.{◌≡◌, map, take}
use Rattle.std.specs.List.{flat_map}
use Rattle.page_layers.specs.Layers.{parts_of}
use Rattle.impl_ranks.specs.inner.Lists.{visible_at}
use Rattle.impl_ranks.proofs.tree.visible_keys.Given as goal

abbrev pub invariant-loop-one : goal.invariant-loop-one
invariant-loop-one l = l.keys ≡ flat_map (visible_at l.layers) (map (λ o. parts_of o.layer.now) (take l.one-index l.order))
