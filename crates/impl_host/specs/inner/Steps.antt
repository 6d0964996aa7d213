-- How the stamps of one tree come from those of another.
use Rattle.std.specs.Prelude.{◌≡◌, ◌≤◌, ℕ, Bool, true, false, ◌||◌, if◌then◌else◌, List, length, slice_get, Option, Some, None, IfSome, find}
use Rattle.geom.specs.declared.tile.Place.{Place}
use Rattle.geom.specs.Sides.{Sides}
use Rattle.geom.specs.Grids.{has, rect_of_place}
use Rattle.region.specs.declared.change.LayerChange.{LayerChange}
use Rattle.region.specs.Lists.{Changed, change_of}
use Rattle.tile_tiling.specs.Tiles.{Tiled, stamp_at}
use Rattle.tile_tiling.specs.Stamps.{Commit, changes_in}
use Rattle.page_layers.specs.Layers.{PageLayer, has_id}
use Rattle.page_layers.specs.Pages.{Page}
use Rattle.tile_visible.specs.Visible.{grid_of}
use Rattle.impl_host.specs.declared.spare.Spare.{Spare}
use Rattle.impl_host.specs.declared.recycled.Recycled.{Recycled}
use Rattle.impl_host.specs.declared.recycled.Recycled.TheVariants as recycled
use Rattle.impl_host.specs.Trees.{TreeModel, Paired, AreCut, IsTreeOf, commit_of}

-- the layer that is found with an id stands at this place; or none is found
abbrev pub StandsAt : ℕ → List PageLayer → Option ℕ → Type 0
StandsAt id layers None = find (has_id id) layers ≡ None
StandsAt id layers (Some i) = (l : PageLayer) × (slice_get layers i ≡ Some l) × (find (has_id id) layers ≡ Some l)

-- the change of a layer, if there is one, is of the whole layer
abbrev pub is_whole : Option LayerChange → Bool
is_whole None = false
is_whole (Some c) = c.whole

-- all places of a layer get the stamp of the commit
abbrev pub changes_all : Changed → ℕ → Bool
changes_all d id = d.retiled || is_whole (change_of d.list id)

-- what holds of the tiling of a layer in a tree
abbrev pub OfLayer : TreeModel → ℕ → (Tiled → Type 0) → Type 0
OfLayer a id P = Paired (λ l t. l.id ≡ id → P t) a.page.layers a.tilings

-- two tilings that are cut alike have the same stamps
abbrev pub AreAlike : Tiled → Tiled → Type 0
AreAlike t u = u.grid ≡ t.grid → (p : Place) → has t.grid p ≡ true → stamp_at t p ≡ stamp_at u p

-- the second tiling has the stamps of the first, stepped by a commit, if the two are cut alike
abbrev pub IsStepped : Commit → ℕ → Tiled → Tiled → Type 0
IsStepped c id t u = t.grid ≡ u.grid → (p : Place) → has u.grid p ≡ true → stamp_at u p ≡ (if changes_in id (rect_of_place u.grid p) c then c.frame else stamp_at t p)

-- a commit leads from the one page's tilings to the other's: those of a layer that is in both are stepped by it
abbrev pub Leads : Page → List Tiled → Commit → Page → List Tiled → Type 0
Leads p ts c q us = Paired (λ l t. Paired (λ m u. l.id ≡ m.id → IsStepped c m.id t u) q.layers us) p.layers ts

-- the second tree's commit leads to it from the first
abbrev pub Follows : TreeModel → TreeModel → Type 0
Follows a t = Leads a.page a.tilings (commit_of t) t.page t.tilings

-- a tiling that has the stamps of the tree's tiling of this layer
abbrev pub IsTwin : TreeModel → ℕ → Tiled → Type 0
IsTwin a id t = OfLayer a id (λ u. AreAlike t u)

-- tilings of the first layers of a page, each cut as its layer is
pub record AreCutAlike (p : Page) (ts : List Tiled) : Type 0 where
  pub few : length ts ≤ length p.layers
  pub grids : Paired (λ l t. t.grid ≡ grid_of p l) p.layers ts

-- what is kept of a spare tiling
pub record IsSpareOf (a : TreeModel) (s : Spare) : Type 0 where
  pub grid : s.tiling.grid ≡ s.grid
  pub twin : IsTwin a s.layer s.tiling

-- the tree has a tiling of this layer, which is cut so
pub record HasTiling (id : ℕ) (g : Sides) (a : TreeModel) : Type 0 where
  pub place : ℕ
  pub layer : PageLayer
  pub tiling : Tiled
  pub stands : slice_get a.page.layers place ≡ Some layer
  pub tiled : slice_get a.tilings place ≡ Some tiling
  pub named : layer.id ≡ id
  pub cut : tiling.grid ≡ g

abbrev pub HasTilingIn : Option TreeModel → ℕ → Sides → Type 0
HasTilingIn None id g = ⊥
HasTilingIn (Some a) id g = HasTiling id g a

-- the tiling of a layer in the tree of a commit, after the last pushed tree
pub record IsNextTiling (last : Option TreeModel) (c : Commit) (id : ℕ) (g : Sides) (u : Tiled) : Type 0 where
  pub grid : u.grid ≡ g
  pub anew : changes_all c.changed id ≡ true → (p : Place) → has g p ≡ true → stamp_at u p ≡ c.frame
  pub stepped : IfSome last (λ a. OfLayer a id (λ t. IsStepped c id t u))

-- the tilings of the tree of a commit, after the last pushed tree
pub record AreMade (last : Option TreeModel) (p : Page) (d : Changed) (k : ℕ) (made : List Tiled) : Type 0 where
  pub cut : AreCut p made
  pub follow : IfSome last (λ a. Leads a.page a.tilings (record { frame = k; changed = d }) p made)
  pub stamps : IsTreeOf last p d k (record { frame = k; page = p; changed = d; tilings = made })

-- a recycled tree is one commit behind the active one, or it was taken back and is one commit ahead
abbrev pub IsRecycled : Option TreeModel → Recycled → Type 0
IsRecycled last recycled.Nothing = Unit {0}
IsRecycled last (recycled.Behind r) = IfSome last (λ a. Follows r a)
IsRecycled last (recycled.Ahead r) = IfSome last (λ a. Follows a r)

-- a pending tree comes after the active one
abbrev pub IsNext : Option TreeModel → Option TreeModel → Type 0
IsNext last pending = IfSome pending (λ t. IfSome last (λ a. Follows a t))
