-- A layer of one tree, beside the layer of the same number in the other tree.
use Rattle.std.specs.Prelude.{◌≡◌, cond, is_some, Option, Some, None, List, filter_map}
use Rattle.tile_priority.specs.declared.rank.Rank.{Rank}
use Rattle.tile_priority.specs.declared.rank.Side.{Side}
use Rattle.tile_priority.specs.declared.rank.Side.TheVariants as side
use Rattle.tile_priority.specs.declared.tree_priority.TreePriority.{TreePriority}
use Rattle.tile_priority.specs.declared.tree_priority.TreePriority.TheVariants as priority
use Rattle.tile_priority.specs.declared.tile.Borders.{Borders}
use Rattle.tile_priority.specs.Ranks.{least}
use Rattle.impl_ranks.specs.SeenTrees.{SeenLayerModel}
use Rattle.impl_ranks.specs.inner.Lists.{layer_at, rank_on_layer, near_ranks}

-- two layers are cut, moved, clipped and drawn alike
pub record StandAlike (v w : SeenLayerModel) : Type 0 where
  pub grid : w.grid ≡ v.grid
  pub by : w.by ≡ v.by
  pub clip : w.clip ≡ v.clip
  pub draws : w.draws ≡ v.draws

-- two trees are ranked by the same
pub record SameBorders (b c : Borders) : Type 0 where
  pub viewport : c.viewport ≡ b.viewport
  pub soon : c.soon ≡ b.soon
  pub eventually : c.eventually ≡ b.eventually
  pub priority : c.priority ≡ b.priority

-- a layer with the borders of its tree, and the layer beside it, if there is one, with those of the other tree
pub record Pair : Type 0 where
  pub borders : Borders
  pub layer : SeenLayerModel
  pub theirs : Borders
  pub other : Option SeenLayerModel

-- there is a layer beside it that stands alike, in a tree with the same borders
abbrev pub IsAlike : Borders → SeenLayerModel → Borders → Option SeenLayerModel → Type 0
IsAlike b v c None = ⊥
IsAlike b v c (Some w) = SameBorders b c × StandAlike v w

-- the tree that gives the better rank to a tile that is seen alike in both
abbrev pub better_side : TreePriority → Side
better_side priority.Same = side.Active
better_side priority.Smooth = side.Active
better_side priority.New = side.Pending

-- a rank of an active layer, or the better one that its key has in the pending layer beside it
abbrev pub better_beside : Borders → Option SeenLayerModel → Rank → Option Rank
better_beside c o r = least (Some r) (rank_on_layer c side.Pending o r.key)

-- a rank of a pending layer, if its key has none in the active layer beside it
abbrev pub alone_beside : Borders → Option SeenLayerModel → Rank → Option Rank
alone_beside c o r = cond (is_some (rank_on_layer c side.Active o r.key)) None (Some r)

-- the ranks of an active layer near the viewport, each as the better one that its key has among pending layers
abbrev pub better_near : Borders → Borders → List SeenLayerModel → SeenLayerModel → List Rank
better_near b c vs v = filter_map (better_beside c (layer_at v.id vs)) (near_ranks b side.Active v)

-- the ranks of a pending layer near the viewport whose keys have none among active layers
abbrev pub alone_near : Borders → Borders → List SeenLayerModel → SeenLayerModel → List Rank
alone_near b c vs v = filter_map (alone_beside c (layer_at v.id vs)) (near_ranks b side.Pending v)
