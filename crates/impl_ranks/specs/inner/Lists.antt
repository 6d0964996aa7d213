-- Keys and ranks by the layers of a seen tree.
use Rattle.std.specs.Prelude.{◌≡◌, ◌≤◌, ◌≤ℤ◌, ℕ, ◌==◌, pos, neg_ℤ, Bool, false, ◌&&◌, cond, List, [], ◌∷◌, ◌++◌, map, filter_map, is_some, Option, Some, None}
use Rattle.std.specs.List.{find, flat_map}
use Rattle.geom.specs.declared.rect.Point.{Point}
use Rattle.geom.specs.declared.rect.Rect.{Rect}
use Rattle.geom.specs.declared.tile.Place.{Place}
use Rattle.geom.specs.declared.tile.TileKey.{TileKey}
use Rattle.geom.specs.Grids.{has, rect_of_place, places_touching}
use Rattle.geom.specs.Gaps.{shifted}
use Rattle.tile_tiling.specs.Tiles.{Tiled, stamp_at, key_of}
use Rattle.page_layers.specs.Layers.{PageLayer}
use Rattle.tile_priority.specs.declared.rank.Rank.{Rank}
use Rattle.tile_priority.specs.declared.rank.Side.{Side}
use Rattle.tile_priority.specs.declared.rank.Side.TheVariants as side
use Rattle.tile_priority.specs.declared.tile.Borders.{Borders}
use Rattle.tile_priority.specs.declared.tile.Seen.{Seen}
use Rattle.tile_priority.specs.Bins.{rank_of}
use Rattle.tile_priority.specs.Ranks.{least}
use Rattle.page_layers.specs.Pages.{Page}
use Rattle.page_layers.specs.Sound.{IsPage}
use Rattle.model_history.specs.Scripts.{ScriptModel}
use Rattle.model_history.specs.Ranking.{place_named, borders}
use Rattle.impl_ranks.specs.Areas.{area_near}
use Rattle.model_history.specs.Tiles.{Tree}
use Rattle.impl_ranks.specs.SeenTrees.{SeenLayerModel, SeenTreeModel, IsSeenIn, IsLayerOf}

-- the opposite move
abbrev pub back : Point → Point
back by = record { x = neg_ℤ by.x; y = neg_ℤ by.y }

-- the layer of an id
abbrev pub layer_at : ℕ → List SeenLayerModel → Option SeenLayerModel
layer_at id vs = find (λ (v : SeenLayerModel). v.id == id) vs

-- the layer has this key
abbrev pub layer_has : SeenLayerModel → TileKey → Bool
layer_has v q = has v.grid (place_named q) && (stamp_at v.stamps (place_named q) == q.stamp)

-- one of the layers has it
abbrev pub has_on : Option SeenLayerModel → TileKey → Bool
has_on None q = false
has_on (Some v) q = layer_has v q

abbrev pub seen_has : List SeenLayerModel → TileKey → Bool
seen_has vs q = has_on (layer_at q.layer vs) q

-- how a tile of the layer is seen
abbrev pub tile_seen : SeenLayerModel → Place → Seen
tile_seen v place = record { screen = shifted (rect_of_place v.grid place) v.by; clip = v.clip; draws = v.draws }

-- the rank of a key, if the layer has it
abbrev pub layer_rank : Borders → Side → SeenLayerModel → TileKey → Option Rank
layer_rank b a v q = cond (layer_has v q) (rank_of b a (tile_seen v (place_named q)) q) None

-- the rank of a key, if one of the layers has it
abbrev pub rank_on_layer : Borders → Side → Option SeenLayerModel → TileKey → Option Rank
rank_on_layer b a None q = None
rank_on_layer b a (Some v) q = layer_rank b a v q

abbrev pub seen_rank : Borders → Side → List SeenLayerModel → TileKey → Option Rank
seen_rank b a vs q = rank_on_layer b a (layer_at q.layer vs) q

-- the rank of a key in a tree that may be missing
abbrev pub rank_where : ScriptModel → Side → Option SeenTreeModel → TileKey → Option Rank
rank_where s a None q = None
rank_where s a (Some r) q = seen_rank (borders s r.page) a r.layers q

-- a rank, or the better one that its key has in a pending tree of these layers
abbrev pub better_on : Borders → List SeenLayerModel → Rank → Option Rank
better_on b vs r = least (Some r) (seen_rank b side.Pending vs r.key)

-- a rank, if its key has none in an active tree of these layers
abbrev pub alone_on : Borders → List SeenLayerModel → Rank → Option Rank
alone_on b vs r = cond (is_some (seen_rank b side.Active vs r.key)) None (Some r)

-- the rank of a place of a layer
abbrev pub place_rank : Borders → Side → SeenLayerModel → Place → Option Rank
place_rank b a v place = rank_of b a (tile_seen v place) (key_of v.stamps v.id place)

-- the ranks of the places of a layer near the viewport
abbrev pub near_ranks : Borders → Side → SeenLayerModel → List Rank
near_ranks b a v = filter_map (place_rank b a v) (places_touching v.grid (shifted (area_near b) (back v.by)))

-- the ranks of a tree that may be missing
abbrev pub ranks_where : ScriptModel → Side → Option SeenTreeModel → List Rank
ranks_where s a None = []
ranks_where s a (Some r) = flat_map (near_ranks (borders s r.page) a) r.layers

-- a rank, or the better one that its key has in the pending tree
abbrev pub or_better : ScriptModel → Option SeenTreeModel → Rank → Option Rank
or_better s p r = least (Some r) (rank_where s side.Pending p r.key)

-- a rank, if its key has none in the active tree
abbrev pub alone : ScriptModel → Option SeenTreeModel → Rank → Option Rank
alone s a r = cond (is_some (rank_where s side.Active a r.key)) None (Some r)

-- the ranks in both trees, each key once
abbrev pub ranks_both : ScriptModel → Option SeenTreeModel → Option SeenTreeModel → List Rank
ranks_both s a p = filter_map (or_better s p) (ranks_where s side.Active a) ++ filter_map (alone s a) (ranks_where s side.Pending p)

-- the keys of the visible places of a layer
abbrev pub visible_of : SeenLayerModel → List TileKey
visible_of v = cond v.draws (map (key_of v.stamps v.id) (places_touching v.grid (shifted v.clip (back v.by)))) []

-- a viewport from the origin on, of at most 2048 pixels on each side, and a border of at most 512
pub record IsNarrow (b : Borders) : Type 0 where
  pub x : b.viewport.x ≡ pos 0
  pub y : b.viewport.y ≡ pos 0
  pub w_low : pos 0 ≤ℤ b.viewport.w
  pub w_high : b.viewport.w ≤ℤ pos 2048
  pub h_low : pos 0 ≤ℤ b.viewport.h
  pub h_high : b.viewport.h ≤ℤ pos 2048
  pub border : b.eventually ≤ 512

-- an area of the screen near the viewport
pub record IsArea (r : Rect) : Type 0 where
  pub left : neg_ℤ (pos 513) ≤ℤ r.x
  pub right : r.x ≤ℤ pos 2048
  pub upper : neg_ℤ (pos 513) ≤ℤ r.y
  pub lower : r.y ≤ℤ pos 2048
  pub w_low : pos 0 ≤ℤ r.w
  pub w_high : r.w ≤ℤ pos 4096
  pub h_low : pos 0 ≤ℤ r.h
  pub h_high : r.h ≤ℤ pos 4096

-- these are the layers of a page at these offsets, with these stamps
abbrev pub AreSeen : Page → (ℕ → Point) → List PageLayer → List Tiled → List SeenLayerModel → Type 0
AreSeen p offset [] [] [] = Unit {0}
AreSeen p offset [] [] (v ∷ vs) = ⊥
AreSeen p offset [] (u ∷ us) vs = ⊥
AreSeen p offset (l ∷ ls) [] vs = ⊥
AreSeen p offset (l ∷ ls) (u ∷ us) [] = ⊥
AreSeen p offset (l ∷ ls) (u ∷ us) (v ∷ vs) = IsSeenIn p offset l v × (v.stamps ≡ u) × AreSeen p offset ls us vs

-- the keys of the visible places of a layer that may be missing
abbrev pub visible_on : Option SeenLayerModel → List TileKey
visible_on None = []
visible_on (Some v) = visible_of v

-- those of the layer with the id of this one
abbrev pub visible_at : List SeenLayerModel → PageLayer → List TileKey
visible_at vs l = visible_on (layer_at l.id vs)

-- if a tree is there, its page is one
abbrev pub IsPageWhere : Option SeenTreeModel → Type 0
IsPageWhere None = Unit {0}
IsPageWhere (Some r) = IsPage r.page

-- the layer of an id is found in a tree and as it is seen there, or in neither
abbrev pub Found : Tree → ℕ → Option PageLayer → Option SeenLayerModel → Type 0
Found t id None None = Unit {0}
Found t id None (Some v) = ⊥
Found t id (Some l) None = ⊥
Found t id (Some l) (Some v) = IsLayerOf t l v × (l.id ≡ id)
