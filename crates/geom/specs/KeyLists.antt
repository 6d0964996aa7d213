-- Lists of tile keys.
use Rattle.std.specs.Prelude.{◌≡◌, ◌==◌, Bool, false, ◌&&◌, List, [], ◌∷◌}
use Rattle.std.specs.List.{list_any}
use Rattle.geom.specs.declared.tile.TileKey.{TileKey}

-- whether two keys are one: all four numbers are the same; whether a list has this key
abbrev pub same_key : TileKey → TileKey → Bool
same_key k q = (k.layer == q.layer) && (k.x == q.x) && (k.y == q.y) && (k.stamp == q.stamp)

abbrev pub has_key : List TileKey → TileKey → Bool
has_key ks q = list_any (λ k. same_key k q) ks

-- no key stands twice
abbrev pub AreDistinctKeys : List TileKey → Type 0
AreDistinctKeys [] = Unit {0}
AreDistinctKeys (k ∷ ks) = (has_key ks k ≡ false) × AreDistinctKeys ks
