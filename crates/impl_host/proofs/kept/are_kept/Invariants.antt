-- The rest of the layers answers as all of them.
use Rattle.std.proofs.Common.{◌≡◌, map, drop}
use Rattle.std.specs.Option.{option_copied}
use Rattle.page_layers.specs.Layers.{parts_of}
use Rattle.impl_host.specs.inner.Tests.{are_kept}
use Rattle.impl_host.proofs.kept.are_kept.Given as goal

abbrev pub invariant-loop-layer : goal.invariant-loop-layer
invariant-loop-layer l = are_kept (option_copied l.last) l.changes (map parts_of (drop l.layer-index l.layers)) ≡ are_kept (option_copied l.last) l.changes (map parts_of l.layers)
