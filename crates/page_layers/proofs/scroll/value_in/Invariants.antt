use Rattle.std.proofs.Common.{◌≡◌, drop}
use Rattle.page_properties.specs.Entries.{find}
use Rattle.page_layers.specs.Scrolls.{or_origin}
use Rattle.page_layers.proofs.scroll.value_in.Given as goal

abbrev pub invariant-loop-value : goal.invariant-loop-value
invariant-loop-value l = or_origin (find l.id (drop l.value-index l.values)) ≡ or_origin (find l.id l.values)
