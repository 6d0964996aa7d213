-- Quads and passes that show the same.
use Rattle.std.specs.Prelude.{◌≡◌, ℕ, ◌+◌, take, ℤ, false, true, List, [], ◌∷◌, ◌++◌, slice_index_or}
use Rattle.geom.specs.declared.Rect.{Rect}
use Rattle.geom.specs.Covers.{covers}
use Rattle.geom.specs.Common.{empty_rect}
use Rattle.region.specs.Points.{covered}
use Rattle.pixel.specs.Colours.{Parts, clear}
use Rattle.page_display_list.specs.declared.Item.{Item}
use Rattle.page_display_list.specs.Content.{painted}
use Rattle.tile_raster.specs.Images.{Image, ShowAlike}
use Rattle.viz_scene.specs.Views.{QuadView}
use Rattle.viz_scene.specs.Pixels.{quad_over, quads_over}

-- an item leaves each colour as it is at each point of a rect
abbrev pub PaintsNothing : Rect → Item → Type 0
PaintsNothing r i = (x y : ℤ) → covers r x y ≡ true → (below : Parts) → painted x y below i ≡ below

-- two items paint the same at each point of a rect
abbrev pub PaintAlike : Rect → Item → Item → Type 0
PaintAlike r i j = (x y : ℤ) → covers r x y ≡ true → (below : Parts) → painted x y below i ≡ painted x y below j

-- two images have one rect and show the same there
pub record AreSameImages (i j : Image) : Type 0 where
  pub rect : i.rect ≡ j.rect
  pub pixels : ShowAlike i.rect i.list j.list

-- two quads make the same of each colour at each point
abbrev pub ActAlike : QuadView → QuadView → Type 0
ActAlike q r = (passes : List Parts) (x y : ℤ) (below : Parts) → quad_over passes x y below q ≡ quad_over passes x y below r

-- two lists of quads make the same of each colour at a point
abbrev pub AlikeAt : List Parts → ℤ → ℤ → List QuadView → List QuadView → Type 0
AlikeAt passes x y qs rs = (below : Parts) → quads_over passes x y below qs ≡ quads_over passes x y below rs

-- two lists of quads make the same of each colour at each point
abbrev pub ActListsAlike : List QuadView → List QuadView → Type 0
ActListsAlike qs rs = (passes : List Parts) (x y : ℤ) → AlikeAt passes x y qs rs

-- if the quads before a place of one list make the same as those before a place of another, those up to the places do
abbrev pub GoOnAlike : List QuadView → ℕ → List QuadView → ℕ → Type 0
GoOnAlike qs i rs j =
    (passes : List Parts) (x y : ℤ) (below : Parts)
    → quads_over passes x y below (take i qs) ≡ quads_over passes x y below (take j rs)
    → quads_over passes x y below (take (i + 1) qs) ≡ quads_over passes x y below (take (j + 1) rs)

-- at a point that the reach of a pass does not cover the pass is transparent
abbrev pub ClearOutside : List Rect → List Parts → ℤ → ℤ → Type 0
ClearOutside reaches passes x y =
    (p : ℕ) → covers (slice_index_or reaches p empty_rect) x y ≡ false → slice_index_or passes p clear ≡ clear

-- outside the area quads change nothing, if the passes that they draw as groups have these reaches
abbrev pub ActWithin : List Rect → List Rect → List QuadView → Type 0
ActWithin reaches area qs =
    (x y : ℤ) → covered area x y ≡ false → (passes : List Parts) → ClearOutside reaches passes x y
    → AlikeAt passes x y qs []

-- outside the area two lists of quads make the same of each colour
abbrev pub DifferWithin : List Rect → List Rect → List QuadView → List QuadView → Type 0
DifferWithin reaches area qs rs =
    (x y : ℤ) → covered area x y ≡ false → (passes : List Parts) → ClearOutside reaches passes x y
    → AlikeAt passes x y qs rs

-- at a point each pass makes the same of each colour as its partner, if the passes before them have these colours
abbrev pub PassesAlike : ℤ → ℤ → List Parts → List (List QuadView) → List (List QuadView) → Type 0
PassesAlike x y before [] [] = Unit {0}
PassesAlike x y before [] (q ∷ qs) = ⊥
PassesAlike x y before (p ∷ ps) [] = ⊥
PassesAlike x y before (p ∷ ps) (q ∷ qs) = AlikeAt before x y p q × PassesAlike x y (before ++ quads_over before x y clear p ∷ []) ps qs
