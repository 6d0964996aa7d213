-- A page: what the commands act on.
use Rattle.std.specs.Prelude.{ℕ, pos, ◌≤◌, List}
use Rattle.geom.specs.Limits.{max_viewport, max_tile}
use Rattle.geom.specs.declared.rect.Point.{Point}
use Rattle.geom.specs.declared.rect.Rect.{Rect}
use Rattle.page_properties.specs.Trees.{Trees as Props}
use Rattle.page_layers.specs.declared.view.View.{View}
use Rattle.page_layers.specs.Layers.{PageLayer}

-- a view in its ranges: the viewport's width and height 1 to 2048, the side of a tile 16 to 256
pub record IsView (v : View) : Type 0 where
  pub w_low : 1 ≤ v.w
  pub w_high : v.w ≤ max_viewport
  pub h_low : 1 ≤ v.h
  pub h_high : v.h ≤ max_viewport
  pub tile_low : 16 ≤ v.tile
  pub tile_high : v.tile ≤ max_tile

-- a page: its view, its property nodes, its layers in painting order, the ids that layers have or ever had, and the main scroll values under the ids of their scrollers
pub record Page : Type 0 where
  pub view : View
  pub props : Props
  pub layers : List PageLayer
  pub used : List ℕ
  pub values : List (ℕ × Point)

-- the viewport of a page
abbrev pub viewport : Page → Rect
viewport p = record { x = pos 0; y = pos 0; w = pos p.view.w; h = pos p.view.h }
