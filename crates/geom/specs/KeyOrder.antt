-- The order of tile keys.
use Rattle.std.specs.declared.cmp.Ordering.{Ordering}
use Rattle.std.specs.Ordering.{nat_cmp, on, then_cmp}
use Rattle.geom.specs.declared.tile.TileKey.{TileKey}

-- by layer, then row, then column, then stamp
abbrev pub key_cmp : TileKey → TileKey → Ordering
key_cmp = then_cmp (on (λ k. k.layer) nat_cmp) (then_cmp (on (λ k. k.y) nat_cmp) (then_cmp (on (λ k. k.x) nat_cmp) (on (λ k. k.stamp) nat_cmp)))
