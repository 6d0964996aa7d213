-- The layers so far have their tilings.
use Rattle.std.proofs.Common.{◌≡◌, All, length, map}
use Rattle.std.specs.Prelude.{IfSome}
use Rattle.page_layers.specs.Layers.{parts_of}
use Rattle.tile_visible.specs.Visible.{grid_of}
use Rattle.impl_host.specs.Trees.{Paired}
use Rattle.impl_host.specs.inner.Steps.{IsNextTiling, IsSpareOf}
use Rattle.impl_host.proofs.making.add_tilings.Given as goal

abbrev pub invariant-loop-layer : goal.invariant-loop-layer
invariant-loop-layer l = record {
  so_far : length l.tilings.items ≡ l.layer-index;
  each : Paired (λ k u. IsNextTiling l.last (record { frame = l.frame; changed = l.changes }) k.id (grid_of l.tree k) u) (map parts_of l.layers) l.tilings.items;
  spares : IfSome l.last (λ a. All (IsSpareOf a) l.spares.items);
}
