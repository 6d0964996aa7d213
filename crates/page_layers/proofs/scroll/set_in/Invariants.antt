use Rattle.std.proofs.Common.{◌≡◌, ◌++◌, drop, take}
use Rattle.page_properties.specs.Entries.{with_node_changed}
use Rattle.page_layers.proofs.scroll.set_in.Given as goal

abbrev pub invariant-loop-value : goal.invariant-loop-value
invariant-loop-value l = record {
  same : l.values ≡ l.initial.values;
  rest : take l.value-index l.values ++ with_node_changed l.id (λ v. l.at) (drop l.value-index l.values) ≡ with_node_changed l.id (λ v. l.at) l.values;
}
