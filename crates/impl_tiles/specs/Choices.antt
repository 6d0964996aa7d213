-- What there is to choose from, told by ranks and by what a store has.
use Rattle.std.specs.Prelude.{ℕ, Bool, not, ◌&&◌, List, map, filter, find, Option, Some}
use Rattle.std.specs.FinMap as fin
use Rattle.std.specs.FinSet as set
use Rattle.geom.specs.declared.tile.TileKey.{TileKey}
use Rattle.geom.specs.KeyLists.{has_key}
use Rattle.tile_priority.specs.declared.rank.Bin.{Bin}
use Rattle.tile_priority.specs.declared.rank.Rank.{Rank}
use Rattle.tile_priority.specs.Tiles.{Tile}
use Rattle.tile_priority.specs.Choice.{Choice, is_worse}
use Rattle.tile_priority.specs.Alike.{is_of}
use Rattle.impl_tiles.specs.Stores.{Store, is_ready, is_in_flight}

-- ranks, and how many tiles there may be
pub record Ranked : Type 0 where
  pub ranks : List Rank
  pub budget : ℕ

-- the rank of a key among ranks, if one of them is of it
abbrev pub rank_among : List Rank → TileKey → Option Rank
rank_among rs q = find (is_of q) rs

-- the key is neither ready nor being made
abbrev pub store_lacks : Store → TileKey → Bool
store_lacks store q = not (is_ready store q) && not (is_in_flight store q)

-- a ready key with its rank, and whether it must stay
abbrev pub tile_among : List Rank → List TileKey → TileKey → Tile
tile_among rs pins q = record { key = q; rank = rank_among rs q; pinned = has_key pins q }

-- what there is to choose from if these are the ranks of all keys that have one, and these keys are pinned: the ranks of the missing keys are wanted, and what the store has is ready
abbrev pub choice_among : Store → List TileKey → Ranked → Choice
choice_among store pins r = record {
  wanted = filter (λ k. store_lacks store k.key) r.ranks;
  ready = map (tile_among r.ranks pins) (fin.keys store.ready);
  in_flight = set.len store.in_flight;
  budget = r.budget;
}

-- the rank is of a ready key that is not pinned, and that stays for a tile of this bin
abbrev pub stays_for : Store → List TileKey → Bin → Rank → Bool
stays_for store pins b r = not (is_worse (Some r) b) && (not (has_key pins r.key) && is_ready store r.key)
