-- What a start and the end of one do to a choice, and when two choices are alike.
use Rattle.std.specs.Prelude.{◌≡◌, ◌+◌, ◌-◌, Bool, not, Option, Some, None, List, ◌∷◌, ◌++◌, length, filter, filter_map}
use Rattle.geom.specs.declared.tile.TileKey.{TileKey}
use Rattle.geom.specs.KeyLists.{same_key, has_key}
use Rattle.tile_priority.specs.declared.rank.Rank.{Rank}
use Rattle.tile_priority.specs.Tiles.{Tile}
use Rattle.tile_priority.specs.Ordered.{SameMembers}
use Rattle.tile_priority.specs.Choice.{Choice}

-- of the two lists equally many elements pass each test
abbrev pub AsMany : {X : Type 0} → List X → List X → Type 0
AsMany {X} xs ys = (f : X → Bool) → length (filter f xs) ≡ length (filter f ys)

-- two choices with the same wanted ranks and the same ready tiles, each ready tile as often; the order of the lists is free
pub record Alike (c d : Choice) : Type 0 where
  pub wanted : SameMembers c.wanted d.wanted
  pub ready : SameMembers c.ready d.ready
  pub as_many : AsMany c.ready d.ready
  pub in_flight : c.in_flight ≡ d.in_flight
  pub budget : c.budget ≡ d.budget

-- the rank is of this key
abbrev pub is_of : TileKey → Rank → Bool
is_of q r = same_key r.key q

-- the tile's key is one of these
abbrev pub is_among : List TileKey → Tile → Bool
is_among ks t = has_key ks t.key

-- the tile's rank, if it has one
abbrev pub tile_rank : Tile → Option Rank
tile_rank t = t.rank

-- the choice once a key is started and these keys are evicted for it: it is wanted no more, they are ready no more and wanted again if they have a rank, and one tile more is in flight
abbrev pub choice_after_start : Choice → TileKey → List TileKey → Choice
choice_after_start c q evicted = record {
  wanted = filter (λ r. not (is_of q r)) c.wanted ++ filter_map tile_rank (filter (is_among evicted) c.ready);
  ready = filter (λ t. not (is_among evicted t)) c.ready;
  in_flight = c.in_flight + 1;
  budget = c.budget;
}

-- the tile is ready too, if there is one
abbrev pub with_ready : Option Tile → List Tile → List Tile
with_ready None ts = ts
with_ready (Some t) ts = t ∷ ts

-- the choice once a tile in flight is made: one fewer is in flight, and the tile is ready if it is still needed
abbrev pub finished : Choice → Option Tile → Choice
finished c tile = record { wanted = c.wanted; ready = with_ready tile c.ready; in_flight = c.in_flight - 1; budget = c.budget }
