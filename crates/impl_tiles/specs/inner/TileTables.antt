-- How a tile store lays out what it holds.
use Rattle.std.specs.Prelude.{◌≡◌, ◌<◌, ◌≤◌, ℕ, suc, ◌-◌, min, Bool, false, not, is_some, Option, Some, None, option_map, List, [], ◌∷◌, map, filter, length, take, drop, refl}
use Rattle.std.specs.declared.cmp.Ordering.TheVariants.{Less}
use Rattle.std.specs.Option.{option_and_then}
use Rattle.std.specs.Coded.{Coded, code_by, coded×, coded_ℕ, coded_option}
use Rattle.std.specs.FinMap as fin
use Rattle.slab.specs.Slab.{Slab, get, slab_len}
use Rattle.geom.specs.declared.tile.TileKey.{TileKey}
use Rattle.geom.specs.KeyOrder.{key_cmp}
use Rattle.tile_raster.specs.Images.{Image}
use Rattle.impl_tiles.specs.declared.held.KeyedPlace.{KeyedPlace}
use Rattle.impl_tiles.specs.declared.held.Tile.{Tile}
use Rattle.geom.specs.KeyLists.{has_key}

-- the held keys, each with its image or with none while that is being made, and for how many more there is room
pub record TileTableModel : Type 0 where
  pub held : fin.FinMap key_cmp (Option Image)
  pub spare : ℕ

-- a table is coded as the pair of its fields
abbrev pub table_code : Coded TileKey → Coded Image → Coded TileTableModel
table_code key image =
    code_by
    (fin.FinMap key_cmp (Option Image) × ℕ)
    (coded× (fin.code key (coded_option image)) coded_ℕ)
    (λ s. (s.held, s.spare))
    (λ p. record { held = p.0; spare = p.1 })
    (λ _. refl)

-- the image of a tile, if it is made
abbrev pub shown : Tile → Option Image
shown t = option_map (λ a. a.value) t.image

-- the keys, each with the image at its place
abbrev pub rows : (ℕ → Option Tile) → List KeyedPlace → List (TileKey × Option Image)
rows tiles held = map (λ h. (h.key, option_and_then shown (tiles h.place))) held

-- each of these keys is below the key
abbrev pub Before : TileKey → List KeyedPlace → Type 0
Before k [] = Unit {0}
Before k (h ∷ hs) = (key_cmp h.key k ≡ Less) × Before k hs

-- each of these keys is above the key
abbrev pub After : TileKey → List KeyedPlace → Type 0
After k [] = Unit {0}
After k (h ∷ hs) = (key_cmp k h.key ≡ Less) × After k hs

-- the keys rise
abbrev pub Rises : List KeyedPlace → Type 0
Rises [] = Unit {0}
Rises (h ∷ hs) = After h.key hs × Rises hs

-- the place has the tile of this key
abbrev pub HasTileOf : (ℕ → Option Tile) → ℕ → TileKey → Type 0
HasTileOf tiles place key = option_map (λ t. t.key) (tiles place) ≡ Some key

-- the place of each key has the tile of this key
abbrev pub AreKept : (ℕ → Option Tile) → List KeyedPlace → Type 0
AreKept tiles [] = Unit {0}
AreKept tiles (h ∷ hs) = HasTileOf tiles h.place h.key × AreKept tiles hs

-- the key stands at this index
pub record StandsAt (held : List KeyedPlace) (key : TileKey) (at : ℕ) : Type 0 where
  pub in_range : at < length held
  pub one : KeyedPlace
  pub here : drop at held ≡ one ∷ drop (suc at) held
  pub is_key : one.key ≡ key
  pub before : Before key (take at held)
  pub after : After key (drop (suc at) held)

-- the key would go to this index
pub record IsGapFor (held : List KeyedPlace) (key : TileKey) (at : ℕ) : Type 0 where
  pub in_range : at ≤ length held
  pub before : Before key (take at held)
  pub after : After key (drop at held)

-- for how many more keys there is room, in the chunks, in the slab, and below the limit
abbrev pub room : ℕ → ℕ → ℕ → ℕ
room chunks slab_capacity tiles = min chunks (min (slab_capacity - tiles) (4294967295 - tiles))

-- the keys rise, each has its tile and there are no others, and they are fewer than 2^32
pub record IsTileTable (tiles : Slab Tile) (held : List KeyedPlace) : Type 0 where
  pub rises : Rises held
  pub kept : AreKept (get tiles) held
  pub counted : slab_len tiles ≡ length held
  pub few : length held ≤ 4294967295

-- a list does not name the key
abbrev pub is_unnamed : List TileKey → TileKey → Bool
is_unnamed named k = not (has_key named k)

-- the tile has its image
abbrev pub is_made : Option Tile → Bool
is_made None = false
is_made (Some t) = is_some t.image

-- the keys whose tiles have an image
abbrev pub made_keys : (ℕ → Option Tile) → List KeyedPlace → List TileKey
made_keys tiles held = map (λ h. h.key) (filter (λ h. is_made (tiles h.place)) held)
