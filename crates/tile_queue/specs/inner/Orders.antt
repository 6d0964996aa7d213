-- What holds of the lists of a queue.
use Rattle.std.specs.Prelude.{◌≡◌, ℕ, ◌+◌, ◌<◌, ◌≤◌, ◌^◌, Bool, true, ◌||◌, List, map, length, filter, ◌++◌}
use Rattle.std.specs.List.{list_all}
use Rattle.geom.specs.declared.tile.TileKey.{TileKey}
use Rattle.geom.specs.KeyLists.{same_key}
use Rattle.tile_priority.specs.declared.rank.Rank.{Rank}
use Rattle.tile_priority.specs.Ranks.{rank_cmp}
use Rattle.tile_priority.specs.Tiles.{Tile}
use Rattle.tile_priority.specs.Ordered.{IsInOrder}
use Rattle.tile_priority.specs.Choice.{Choice, is_visible_rank}
use Rattle.tile_queue.specs.declared.evictable.Evictable.{Evictable}
use Rattle.tile_queue.specs.Queues.{rank_key, tile_key}
use Rattle.tile_queue.specs.inner.Evictables.{tile_of, key_of, eviction_cmp}

-- how often a key stands among these
abbrev pub times : TileKey → List TileKey → ℕ
times q ks = length (filter (λ k. same_key k q) ks)

-- how often a key is wanted or ready
abbrev pub standing : TileKey → List Rank → List Tile → List Evictable → ℕ
standing q wanted staying evictables = times q (map rank_key wanted) + (times q (map tile_key staying) + times q (map key_of evictables))

-- how many keys are wanted, ready or in flight
abbrev pub keys : List Rank → List Tile → List Evictable → ℕ → ℕ
keys wanted staying evictables in_flight = length wanted + (length staying + (length evictables + in_flight))

-- the tile is never evicted: it is pinned, or visible, and so of the best bin
abbrev pub stays : Tile → Bool
stays t = t.pinned || is_visible_rank t.rank

-- the ranks stand with the best first and the evictable tiles with the worst first, all other ready tiles stay, no key stands twice, and each list has room for all keys
pub record IsQueue (wanted : List Rank) (staying : List Tile) (evictables : List Evictable) (in_flight : ℕ) (ranks_room kept_room evictables_room : ℕ) : Type 0 where
  pub best_first : IsInOrder rank_cmp wanted
  pub worst_first : IsInOrder eviction_cmp evictables
  pub all_stay : list_all stays staying ≡ true
  pub once : (q : TileKey) → standing q wanted staying evictables ≤ 1
  pub fits_ranks : keys wanted staying evictables in_flight ≤ ranks_room
  pub fits_kept : keys wanted staying evictables in_flight ≤ kept_room
  pub fits_evictables : keys wanted staying evictables in_flight ≤ evictables_room
  pub few : keys wanted staying evictables in_flight < 2 ^ 62

-- the choice that the lists represent
abbrev pub choice_of : List Rank → List Tile → List Evictable → ℕ → ℕ → Choice
choice_of wanted staying evictables in_flight budget = record { wanted = wanted; ready = staying ++ map tile_of evictables; in_flight = in_flight; budget = budget }
