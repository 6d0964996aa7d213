-- The rest of the layers answers as all of them.
use Rattle.std.proofs.Common.{◌≡◌, map, drop}
use Rattle.std.specs.Prelude.{find}
use Rattle.page_layers.specs.Layers.{parts_of, has_id}
use Rattle.impl_host.proofs.kept.size_of.Given as goal

abbrev pub invariant-loop-layer : goal.invariant-loop-layer
invariant-loop-layer l = find (has_id l.id) (map parts_of (drop l.layer-index l.layers)) ≡ find (has_id l.id) (map parts_of l.layers)
