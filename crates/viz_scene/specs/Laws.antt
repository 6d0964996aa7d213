-- Laws of the pixels of scenes.
use Rattle.std.specs.Prelude.{◌≡◌, ℕ, ℤ, List, [], ◌∷◌, ◌++◌}
use Rattle.pixel.specs.Colours.{Parts}
use Rattle.viz_scene.specs.Views.{QuadView}
use Rattle.viz_scene.specs.Pixels.{quads_over, passes_at, scene_pixel}
use Rattle.viz_scene.specs.Opaque.{IsHidden}

abbrev pub RootIsTheLastPass : Type 0
RootIsTheLastPass =
    (w h : ℕ) (background : Parts) (inner : List (List QuadView)) (root : List QuadView) (x y : ℤ)
    → scene_pixel (record { w = w; h = h; background = background; passes = inner ++ root ∷ [] }) x y
    ≡ quads_over (passes_at x y [] inner) x y background root

abbrev pub HiddenQuadsDoNotShow : Type 0
HiddenQuadsDoNotShow =
    (q : QuadView) (later : List QuadView) → IsHidden q later
    → (passes : List Parts) (x y : ℤ) (below : Parts) → quads_over passes x y below (q ∷ later) ≡ quads_over passes x y below later
