-- Scenes that are one, part by part.
use Rattle.std.proofs.Common.{◌≡◌}
use Rattle.geom.specs.declared.Rect.{Rect}
use Rattle.geom.specs.declared.Point.{Point}
use Rattle.geom.specs.declared.TileKey.{TileKey}
use Rattle.tile_raster.specs.Images.{Image}
use Rattle.viz_scene.specs.Views.{SceneView, tiled}

pub one_scene : (a b : SceneView) → a.w ≡ b.w → a.h ≡ b.h → a.background ≡ b.background → a.passes ≡ b.passes → a ≡ b
one_scene a b w h background passes = λ i. record { w = w i; h = h i; background = background i; passes = passes i }

pub one_tile : (a b : Image) (at place : Rect) (from start : Point) → a ≡ b → at ≡ place → from ≡ start → tiled a at from ≡ tiled b place start
one_tile a b at place from start e f g = λ i. tiled (e i) (f i) (g i)

pub one_image : (a b : Image) → a.key ≡ b.key → a.rect ≡ b.rect → a.list ≡ b.list → a ≡ b
one_image a b key rect list = λ i. record { key = key i; rect = rect i; list = list i }

pub one_key : (a b : TileKey) → a.layer ≡ b.layer → a.x ≡ b.x → a.y ≡ b.y → a.stamp ≡ b.stamp → a ≡ b
one_key a b layer x y stamp = λ i. record { layer = layer i; x = x i; y = y i; stamp = stamp i }
