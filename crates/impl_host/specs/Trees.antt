-- Trees with the tilings of their layers, and what a push makes of them.
use Rattle.std.specs.Prelude.{◌≡◌, ℕ, true, false, List, ◌∷◌, length, slice_get, Option, Some, None, IfSome}
use Rattle.region.specs.Lists.{Changed, is_listed_whole}
use Rattle.tile_tiling.specs.Tiles.{Tiled}
use Rattle.tile_tiling.specs.Stamps.{Commit, IsStamped}
use Rattle.page_layers.specs.Layers.{PageLayer}
use Rattle.page_layers.specs.Pages.{Page}
use Rattle.page_layers.specs.Refusals.{has_layer}
use Rattle.page_layers.specs.Contents.{size_of}
use Rattle.tile_visible.specs.Visible.{grid_of}

-- what contracts see of a tree: its main frame, its page, what the frame's commit changed, and the tilings in the order of the layers
pub record TreeModel : Type 0 where
  pub frame : ℕ
  pub page : Page
  pub changed : Changed
  pub tilings : List Tiled

-- what contracts see of the trees
pub record TreesModel : Type 0 where
  pub active : Option TreeModel
  pub pending : Option TreeModel

-- the commit that made a tree
abbrev pub commit_of : TreeModel → Commit
commit_of t = record { frame = t.frame; changed = t.changed }

-- each layer and the tiling at its place
abbrev pub Paired : (PageLayer → Tiled → Type 0) → List PageLayer → List Tiled → Type 0
Paired P layers tilings = (i : ℕ) (l : PageLayer) (t : Tiled) → slice_get layers i ≡ Some l → slice_get tilings i ≡ Some t → P l t

-- each layer has a tiling, which is cut as the layer is
pub record AreCut (p : Page) (tilings : List Tiled) : Type 0 where
  pub each_one : length tilings ≡ length p.layers
  pub grids : Paired (λ l t. t.grid ≡ grid_of p l) p.layers tilings

-- the tilings of the tree have the stamps of their layers after these commits, the latest of which stands first
abbrev pub AreStamped : TreeModel → List Commit → Type 0
AreStamped t cs = Paired (λ l tiling. IsStamped tiling (grid_of t.page l) l.id cs) t.page.layers t.tilings

-- the same, if there is a tree
abbrev pub AreStampedIn : Option TreeModel → List Commit → Type 0
AreStampedIn last cs = IfSome last (λ t. AreStamped t cs)

-- the size of a layer in the last pushed tree; None if there is no such tree or no such layer
abbrev pub last_size : Option TreeModel → ℕ → Option (ℕ × ℕ)
last_size None id = None
last_size (Some t) id = size_of t.page id

-- a commit may follow the last pushed tree: a layer that it does not list as changed whole stands there with its size, so all layers of the first commit are listed so; and if it does not retile, the tile size is the one there
pub record MayFollow (last : Option TreeModel) (p : Page) (d : Changed) : Type 0 where
  pub sizes : (id : ℕ) → has_layer id p.layers ≡ true → is_listed_whole d.list id ≡ false → last_size last id ≡ size_of p id
  pub tile : d.retiled ≡ false → IfSome last (λ t. t.page.view.tile ≡ p.view.tile)

-- the tree is the one of a commit: this page, and the stamps of the commits before it and of this one
pub record IsTreeOf (last : Option TreeModel) (p : Page) (d : Changed) (k : ℕ) (t : TreeModel) : Type 0 where
  pub frame : t.frame ≡ k
  pub page : t.page ≡ p
  pub changed : t.changed ≡ d
  pub stamps : (cs : List Commit) → AreStampedIn last cs → AreStamped t (record { frame = k; changed = d } ∷ cs)

-- the tree of a commit was made pending
pub record IsPushed (old : TreesModel) (p : Page) (d : Changed) (k : ℕ) (new : TreesModel) : Type 0 where
  pub active : new.active ≡ old.active
  pub tree : TreeModel
  pub pending : new.pending ≡ Some tree
  pub made : IsTreeOf old.active p d k tree
