-- What contracts see of a scene, its passes and their quads: a tile's image by its value.
use Rattle.std.specs.Prelude.{ℕ, List, map}
use Rattle.geom.specs.declared.Rect.{Rect}
use Rattle.geom.specs.declared.Point.{Point}
use Rattle.pixel.specs.Colours.{Parts}
use Rattle.tile_raster.specs.Images.{Image}
use Rattle.viz_scene.specs.declared.quad.Quad.{Quad}
use Rattle.viz_scene.specs.declared.quad.Quad.TheVariants as kind
use Rattle.viz_scene.specs.declared.quad.RenderPass.{RenderPass}

-- a part of an image, a rect of one colour, or another pass faded to an opacity
pub data QuadView : Type 0 where
  tiled : Image → Rect → Point → QuadView
  plain : Rect → Parts → QuadView
  grouped : ℕ → ℕ → QuadView

abbrev pub quad_view : Quad → QuadView
quad_view (kind.Tile image at from) = tiled image.value at from
quad_view (kind.Solid at colour) = plain at colour
quad_view (kind.Group pass opacity) = grouped pass opacity

abbrev pub quads_view : List Quad → List QuadView
quads_view = map quad_view

abbrev pub pass_view : RenderPass → List QuadView
pass_view p = quads_view p.quads.items

abbrev pub passes_view : List RenderPass → List (List QuadView)
passes_view = map pass_view

-- a scene: its sides in pixels, the colour below its root, and its passes, of which the last is the root
pub record SceneView : Type 0 where
  pub w : ℕ
  pub h : ℕ
  pub background : Parts
  pub passes : List (List QuadView)
