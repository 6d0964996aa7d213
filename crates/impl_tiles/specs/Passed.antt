-- Keys that are passed on the way to another.
use Rattle.std.specs.Prelude.{◌≡◌, ◌<◌, ◌≤◌, ℕ, List, length, get_or}
use Rattle.std.specs.declared.cmp.Ordering.TheVariants.{Less}
use Rattle.geom.specs.declared.tile.TileKey.{TileKey}
use Rattle.geom.specs.KeyOrder.{key_cmp}

-- all keys before this place are less than the key
pub record AreLessBefore (ks : List TileKey) (at : ℕ) (q : TileKey) : Type 0 where
  pub bound : at ≤ length ks
  pub less : (i : ℕ) (d : TileKey) → i < at → key_cmp (get_or ks i d) q ≡ Less
