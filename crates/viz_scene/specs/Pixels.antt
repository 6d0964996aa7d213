-- The pixels of a scene.
use Rattle.std.specs.Prelude.{ℤ, ◌+ℤ◌, ◌-ℤ◌, cond, List, [], ◌∷◌, ◌++◌, fold, slice_index_or}
use Rattle.geom.specs.declared.Rect.{Rect}
use Rattle.geom.specs.declared.Point.{Point}
use Rattle.geom.specs.Covers.{covers}
use Rattle.pixel.specs.Colours.{Parts, blend, scaled, clear}
use Rattle.page_display_list.specs.Content.{content}
use Rattle.tile_raster.specs.Images.{Image}
use Rattle.viz_scene.specs.Views.{QuadView, tiled, plain, grouped, SceneView}

-- what an image shows at a point of the screen, where its pixel `from` lies at the top left corner of `at`
abbrev pub placed_pixel : Image → Rect → Point → ℤ → ℤ → Parts
placed_pixel image at from x y =
    content image.list (image.rect.x +ℤ (from.x +ℤ (x -ℤ at.x))) (image.rect.y +ℤ (from.y +ℤ (y -ℤ at.y)))

-- a quad laid over a colour at a point, where the passes before it have these colours there: a tile and a solid
-- lie on their rect alone, a group on every point
abbrev pub quad_over : List Parts → ℤ → ℤ → Parts → QuadView → Parts
quad_over passes x y below (tiled image at from) = cond (covers at x y) (blend below (placed_pixel image at from x y)) below
quad_over passes x y below (plain at colour) = cond (covers at x y) (blend below colour) below
quad_over passes x y below (grouped pass opacity) = blend below (scaled (slice_index_or passes pass clear) opacity)

-- quads laid over a colour, each over those before it
abbrev pub quads_over : List Parts → ℤ → ℤ → Parts → List QuadView → Parts
quads_over passes x y below quads = fold (quad_over passes x y) below quads

-- the colours of passes at a point, after those of the passes before them: each begins transparent
abbrev pub passes_at : ℤ → ℤ → List Parts → List (List QuadView) → List Parts
passes_at x y before [] = before
passes_at x y before (p ∷ more) = passes_at x y (before ++ quads_over before x y clear p ∷ []) more

-- the last of some passes laid over a colour; the passes before it have the colours that `passes_at` says
abbrev pub root_pixel : ℤ → ℤ → Parts → List Parts → List (List QuadView) → Parts
root_pixel x y below before [] = below
root_pixel x y below before (p ∷ []) = quads_over before x y below p
root_pixel x y below before (p ∷ (q ∷ more)) = root_pixel x y below (before ++ quads_over before x y clear p ∷ []) (q ∷ more)

-- the pixel of a scene: its last pass over its background
unfoldable pub scene_pixel : SceneView → ℤ → ℤ → Parts
scene_pixel s x y = root_pixel x y s.background [] s.passes
