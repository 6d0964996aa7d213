-- A tree as its tiles are seen: where each layer stands on the screen, and the stamps of its places.
use Rattle.std.specs.Prelude.{◌≡◌, ℕ, Bool, true, List, [], ◌∷◌, length, slice_get, Option, Some, None}
use Rattle.geom.specs.declared.rect.Point.{Point}
use Rattle.geom.specs.declared.rect.Rect.{Rect}
use Rattle.geom.specs.declared.tile.Place.{Place}
use Rattle.geom.specs.Grids.{has}
use Rattle.geom.specs.Sides.{Sides}
use Rattle.page_properties.specs.Placement.{translation, clip_of, draws}
use Rattle.page_properties.specs.OffsetMap.{offset_at}
use Rattle.tile_tiling.specs.Tiles.{Tiled, stamp_at}
use Rattle.page_layers.specs.Layers.{PageLayer}
use Rattle.page_layers.specs.Pages.{Page, viewport}
use Rattle.tile_visible.specs.Visible.{grid_of, cut_by}
use Rattle.model_history.specs.declared.history.Entry.{Entry}
use Rattle.model_history.specs.Scripts.{ScriptModel}
use Rattle.model_history.specs.Tiles.{Tree, active_tree, pending_tree}

-- a tiling for each layer, in the order of the layers, cut as the layer is
pub record AreCut (p : Page) (tilings : List Tiled) : Type 0 where
  pub each_one : length tilings ≡ length p.layers
  pub grids : (i : ℕ) (l : PageLayer) (u : Tiled) → slice_get p.layers i ≡ Some l → slice_get tilings i ≡ Some u → u.grid ≡ grid_of p l

-- a page, the offsets of its scrollers and the tilings of its layers are those of a tree
pub record IsTiled (t : Tree) (p : Page) (offset : ℕ → Point) (tilings : List Tiled) : Type 0 where
  pub page : p ≡ t.page
  pub offsets : (sc : ℕ) → offset sc ≡ t.offset sc
  pub stamps : (i : ℕ) (l : PageLayer) (u : Tiled) → slice_get t.page.layers i ≡ Some l → slice_get tilings i ≡ Some u
      → (place : Place) → has (grid_of t.page l) place ≡ true → stamp_at u place ≡ t.stamp l.id place

-- a layer as its tiles are seen: how it is cut, how far it is moved, its clip cut by the viewport, whether it is drawn, and the stamps of its places
pub record SeenLayerModel : Type 0 where
  pub id : ℕ
  pub grid : Sides
  pub by : Point
  pub clip : Rect
  pub draws : Bool
  pub stamps : Tiled

-- it is a layer of a page at these offsets
pub record IsSeenIn (p : Page) (offset : ℕ → Point) (l : PageLayer) (v : SeenLayerModel) : Type 0 where
  pub id : v.id ≡ l.id
  pub grid : v.grid ≡ grid_of p l
  pub by : v.by ≡ translation offset p.props.transforms l.transform
  pub clip : v.clip ≡ cut_by (viewport p) (clip_of offset p.props.transforms p.props.clips l.clip)
  pub draws : v.draws ≡ draws p.props.effects l.effect

-- it is a layer of a tree
pub record IsLayerOf (t : Tree) (l : PageLayer) (v : SeenLayerModel) : Type 0 where
  pub seen : IsSeenIn t.page t.offset l v
  pub stamps : (place : Place) → has (grid_of t.page l) place ≡ true → stamp_at v.stamps place ≡ t.stamp l.id place

-- they are layers of a tree, in their order
abbrev pub AreLayersOf : Tree → List PageLayer → List SeenLayerModel → Type 0
AreLayersOf t [] [] = Unit {0}
AreLayersOf t [] (v ∷ vs) = ⊥
AreLayersOf t (l ∷ ls) [] = ⊥
AreLayersOf t (l ∷ ls) (v ∷ vs) = IsLayerOf t l v × AreLayersOf t ls vs

-- a page and its layers as their tiles are seen
pub record SeenTreeModel : Type 0 where
  pub page : Page
  pub layers : List SeenLayerModel

-- it is a tree
pub record IsSeenTree (t : Tree) (r : SeenTreeModel) : Type 0 where
  pub page : r.page ≡ t.page
  pub layers : AreLayersOf t t.page.layers r.layers

-- it is a tree; if there is none, the tree has no layer
abbrev pub IsSeenWhere : Tree → Option SeenTreeModel → Type 0
IsSeenWhere t None = t.page.layers ≡ []
IsSeenWhere t (Some r) = IsSeenTree t r

-- they are an active and a pending tree
pub record AreSeen (a p : Tree) (v w : Option SeenTreeModel) : Type 0 where
  pub active : IsSeenWhere a v
  pub pending : IsSeenWhere p w

-- they are the two trees of a run of the script after this past
abbrev pub AreSeenAt : ScriptModel → List Entry → Option SeenTreeModel → Option SeenTreeModel → Type 0
AreSeenAt s h v w = AreSeen (active_tree s h) (pending_tree s h) v w

-- a page, the offsets of its scrollers, and a tiling for each of its layers, in their order
pub record PlacedModel : Type 0 where
  pub page : Page
  pub offsets : List (ℕ × Point)
  pub tilings : List Tiled

-- it is a tree
abbrev pub IsPlaced : Tree → PlacedModel → Type 0
IsPlaced t m = IsTiled t m.page (offset_at m.offsets) m.tilings

-- it is a tree; if there is none, the tree has no layer
abbrev pub IsPlacedWhere : Tree → Option PlacedModel → Type 0
IsPlacedWhere t None = t.page.layers ≡ []
IsPlacedWhere t (Some m) = IsPlaced t m
