-- Keys with their images, or with none while these are being made.
use Rattle.std.specs.Prelude.{Bool, true, false, Option, Some, None, List, [], ◌∷◌}
use Rattle.std.specs.FinMap as map
use Rattle.std.specs.FinSet as set
use Rattle.geom.specs.declared.tile.TileKey.{TileKey}
use Rattle.geom.specs.KeyOrder.{key_cmp}

module _ {X : Type 0} where
  -- the keys that have an image, with it
  abbrev pub ready_rows : List (TileKey × Option X) → List (TileKey × X)
  ready_rows [] = []
  ready_rows ((k, Some x) ∷ rows) = (k, x) ∷ ready_rows rows
  ready_rows ((k, None) ∷ rows) = ready_rows rows

  -- the keys that have none
  abbrev pub flying_keys : List (TileKey × Option X) → List TileKey
  flying_keys [] = []
  flying_keys ((k, Some x) ∷ rows) = flying_keys rows
  flying_keys ((k, None) ∷ rows) = k ∷ flying_keys rows

  -- the map of the keys that have an image
  unfoldable pub ready_of : map.FinMap key_cmp (Option X) → map.FinMap key_cmp X
  ready_of m = map.from_sorted (ready_rows (map.entries m))

  -- the set of the keys that have none
  unfoldable pub flying_of : map.FinMap key_cmp (Option X) → set.FinSet key_cmp
  flying_of m = set.from_list (flying_keys (map.entries m))

  -- the key is held without an image
  abbrev pub is_flying : Option (Option X) → Bool
  is_flying (Some None) = true
  is_flying _ = false

  -- the key is held with an image
  abbrev pub has_image : Option (Option X) → Bool
  has_image (Some (Some x)) = true
  has_image _ = false

  -- what is left of a key if those that are not live lose their images and what has none stays
  abbrev pub if_live : Bool → Option (Option X) → Option (Option X)
  if_live true held = held
  if_live _ (Some None) = Some None
  if_live _ _ = None

  -- what is left of a key if those of a list are dropped
  abbrev pub if_not_named : Bool → Option (Option X) → Option (Option X)
  if_not_named true held = None
  if_not_named _ held = held
