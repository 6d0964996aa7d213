-- Held keys in chunks.
use Rattle.std.specs.Prelude.{◌≡◌, ◌<◌, ◌≤◌, ℕ, ◌+◌, ◌-◌, min, cond, Bool, false, List, [], ◌∷◌, ◌++◌, length, take, get_or}
use Rattle.std.specs.declared.cmp.Ordering.TheVariants.{Less}
use Rattle.std.specs.Ordering.{is_lt}
use Rattle.impl_tiles.specs.declared.held.KeyedPlace.{KeyedPlace}
use Rattle.impl_tiles.specs.declared.held.Spot.{Spot}
use Rattle.geom.specs.declared.tile.TileKey.{TileKey}
use Rattle.geom.specs.KeyOrder.{key_cmp}
use Rattle.impl_tiles.specs.inner.TileTables.{StandsAt, IsGapFor}

-- chunks of held keys, and for how many keys more there is room
pub record ChunksModel : Type 0 where
  pub chunks : List (List KeyedPlace)
  pub spare : ℕ

-- the keys of all chunks
abbrev pub flat : List (List KeyedPlace) → List KeyedPlace
flat [] = []
flat (c ∷ cs) = c ++ flat cs

-- how many keys stand before a spot
abbrev pub index_of : List (List KeyedPlace) → Spot → ℕ
index_of cs s = length (flat (take s.chunk cs)) + s.at

-- a key stands at the spot
pub record IsSpot (cs : List (List KeyedPlace)) (s : Spot) : Type 0 where
  pub chunk : s.chunk < length cs
  pub at : s.at < length (get_or cs s.chunk [])

-- a key may be put at the spot: into a chunk, or into the first one if there is none
pub record IsGap (cs : List (List KeyedPlace)) (s : Spot) : Type 0 where
  pub chunk : s.chunk ≤ length cs
  pub at : s.at ≤ length (get_or cs s.chunk [])
  pub first : s.chunk ≡ length cs → s.chunk ≡ 0

-- the key stands at the spot
pub record HasKeyAt (cs : List (List KeyedPlace)) (key : TileKey) (s : Spot) : Type 0 where
  pub spot : IsSpot cs s
  pub stands : StandsAt (flat cs) key (index_of cs s)

-- the key would go to the spot
pub record HasGapAt (cs : List (List KeyedPlace)) (key : TileKey) (s : Spot) : Type 0 where
  pub gap : IsGap cs s
  pub goes : IsGapFor (flat cs) key (index_of cs s)

-- the first key of the chunk is above a key, or is not
abbrev pub BeginsAbove : TileKey → List KeyedPlace → Type 0
BeginsAbove key [] = Unit {0}
BeginsAbove key (h ∷ hs) = key_cmp key h.key ≡ Less

abbrev pub BeginsBy : TileKey → List KeyedPlace → Type 0
BeginsBy key [] = Unit {0}
BeginsBy key (h ∷ hs) = is_lt (key_cmp key h.key) ≡ false

-- for how many keys more there is room: each may need a chunk of its own, and one empty chunk is kept at most
abbrev pub chunk_room : Bool → ℕ → ℕ → ℕ
chunk_room is_kept capacity chunks = min (cond is_kept 1 0) (capacity - chunks)
