-- What contracts see of a tile store, and what its calls do to that.
use Rattle.std.specs.Prelude.{◌≡◌, ◌≤◌, ℕ, ◌+◌, Bool, true, false, not, if◌then◌else◌, Option, List, is_some, refl}
use Rattle.std.specs.Coded.{Coded, code_by, coded×, coded_ℕ}
use Rattle.std.specs.FinMap as map
use Rattle.std.specs.FinSet as set
use Rattle.geom.specs.declared.tile.TileKey.{TileKey}
use Rattle.geom.specs.KeyOrder.{key_cmp}
use Rattle.geom.specs.KeyLists.{has_key}
use Rattle.tile_raster.specs.Images.{Image}

-- what a tile store holds: the ready keys with their images, in key order; the keys in flight; and for how many more tiles there is room
pub record Store : Type 0 where
  -- the ready keys, each with its image
  pub ready : map.FinMap key_cmp Image
  -- the keys whose images are being made
  pub in_flight : set.FinSet key_cmp
  -- the given number of starts need no memory
  pub spare : ℕ

-- a store is coded as the tuple of its fields
abbrev pub store_code : Coded TileKey → Coded Image → Coded Store
store_code key image =
    code_by
    (map.FinMap key_cmp Image × (set.FinSet key_cmp × ℕ))
    (coded× (map.code key image) (coded× (set.code key) coded_ℕ))
    (λ s. (s.ready, (s.in_flight, s.spare)))
    (λ p. record { ready = p.0; in_flight = p.1.0; spare = p.1.1 })
    (λ _. refl)

-- the image of a ready key
abbrev pub image_of : Store → TileKey → Option Image
image_of s k = map.get s.ready k

abbrev pub is_ready : Store → TileKey → Bool
is_ready s k = is_some (image_of s k)

abbrev pub is_in_flight : Store → TileKey → Bool
is_in_flight s k = set.contains s.in_flight k

-- how many keys are ready or in flight
abbrev pub store_used : Store → ℕ
store_used s = map.len s.ready + set.len s.in_flight

-- no key is held
abbrev pub empty_store : ℕ → Store
empty_store spare = record { ready = map.empty; in_flight = set.empty; spare = spare }

-- a tile may start: there is room, its key is neither ready nor in flight, and the keys that are evicted for it are ready
pub record MayStart (s : Store) (key : TileKey) (evicted : List TileKey) : Type 0 where
  pub room : 1 ≤ s.spare
  pub not_ready : is_ready s key ≡ false
  pub not_in_flight : is_in_flight s key ≡ false
  pub evicted_ready : (k : TileKey) → has_key evicted k ≡ true → is_ready s k ≡ true

-- the key is in flight, and the evicted keys are not ready
abbrev pub started : Store → TileKey → List TileKey → ℕ → Store
started s key evicted spare =
    record s { ready = map.retain_keys s.ready (λ k. not (has_key evicted k)); in_flight = set.insert s.in_flight key; spare = spare }

-- the image's key is no longer in flight, and it is ready with this image exactly if it is live
abbrev pub done_with : Store → Image → Bool → ℕ → Store
done_with s image live spare =
    record s { ready = (if live then map.insert s.ready image.key image else s.ready); in_flight = set.remove s.in_flight image.key; spare = spare }

-- the keys of the list are ready no more
abbrev pub without : Store → List TileKey → ℕ → Store
without s dead spare = record s { ready = map.retain_keys s.ready (λ k. not (has_key dead k)); spare = spare }
