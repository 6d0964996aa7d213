-- The area that opaque quads hide.
use Rattle.std.specs.Prelude.{◌≡◌, ◌≢◌, ℕ, ◌+◌, ◌<◌, ℤ, true, false, ◌<ℤ◌, ◌≤ℤ◌, List, ◌∷◌, length, reverse, slice_index_or}
use Rattle.geom.specs.declared.Rect.{Rect}
use Rattle.geom.specs.Covers.{covers}
use Rattle.region.specs.Points.{covered}
use Rattle.tile_raster.specs.Images.{Image, list_colour}
use Rattle.viz_scene.specs.declared.Quad.{Quad}
use Rattle.viz_scene.specs.Views.{QuadView, tiled, plain, grouped, quads_view}
use Rattle.viz_scene.specs.Opaque.{IsOpaque, LiesOn, IsCovered}
use Rattle.viz_scene.specs.Sound.{IsTaken}
use Rattle.viz_scene.specs.Areas.{IsOnScreen, IsUnion}
use Rattle.viz_occlusion.specs.declared.cover.Joint.{Joint}
use Rattle.viz_occlusion.specs.declared.opaque.ImagePart.{ImagePart}
use Rattle.viz_occlusion.specs.Culled.{AreKept}
use Rattle.viz_occlusion.specs.inner.Bands.{InBand, has_point}

-- the quad lies on a screen, and the part of an image that it shows in the image
abbrev pub IsFit : QuadView → Type 0
IsFit (tiled image at from) = IsOnScreen at × IsTaken image at from
IsFit (plain at colour) = IsOnScreen at
IsFit (grouped pass opacity) = Unit {0}

-- of the points of its rows each band covers those that opaque quads lie on and no others
pub record IsCover (quads : List QuadView) (bands : List (List Rect)) : Type 0 where
  pub sound : (k : ℕ) (x y : ℤ) → InBand k y → has_point bands k x y ≡ true → IsCovered x y quads
  pub whole : (k : ℕ) (x y : ℤ) → InBand k y → IsCovered x y quads → has_point bands k x y ≡ true

-- one rect of the list and another make one rect
pub record IsJoint (rects : List Rect) (r : Rect) (j : Joint) : Type 0 where
  pub there : j.place < length rects
  pub union : (s : Rect) → s ≡ slice_index_or rects j.place s → IsUnion s r j.union
  pub inside : IsOnScreen j.union

-- each point of some columns and rows is covered
abbrev pub IsBlock : List Rect → ℤ → ℤ → ℤ → ℤ → Type 0
IsBlock rects left right top bottom =
    (x y : ℤ) → left ≤ℤ x → x <ℤ right → top ≤ℤ y → y <ℤ bottom → covered rects x y ≡ true

-- a point of some columns and rows is not
pub record IsOpen (rects : List Rect) (left right top bottom : ℤ) : Type 0 where
  pub x : ℤ
  pub y : ℤ
  pub from_left : left ≤ℤ x
  pub from_right : x <ℤ right
  pub from_top : top ≤ℤ y
  pub from_bottom : y <ℤ bottom
  pub outside : covered rects x y ≡ false

-- the rect covers the point, and the list covers what the rect does
pub record IsRectAt (rects : List Rect) (x y : ℤ) (r : Rect) : Type 0 where
  pub here : covers r x y ≡ true
  pub inside : IsOnScreen r
  pub held : (px py : ℤ) → covers r px py ≡ true → covered rects px py ≡ true

-- the quad is not opaque, or it lies on no point
abbrev pub HidesNothing : QuadView → Type 0
HidesNothing q = (x y : ℤ) → IsOpaque q → LiesOn x y q → ⊥

-- each pixel of a part of an image has alpha 255
abbrev pub IsOpaquePart : Image → ImagePart → Type 0
IsOpaquePart image part =
    (x y : ℕ) → x < part.w → y < part.h → (list_colour image.list image.rect (part.left + x) (part.top + y)).a ≡ 255

-- a pixel of a part of an image has another alpha
pub record HasOtherAlpha (image : Image) (part : ImagePart) : Type 0 where
  pub x : ℕ
  pub y : ℕ
  pub across : x < part.w
  pub down : y < part.h
  pub other : (list_colour image.list image.rect (part.left + x) (part.top + y)).a ≢ 255

-- a quad was kept or left out as it has to be, whatever comes after it: the area and the quads that were kept, last first
pub record IsPassed (q : QuadView) (old_cover new_cover : List (List Rect)) (old_kept new_kept : List Quad) : Type 0 where
  pub cover : (later : List QuadView) → IsCover later old_cover → IsCover (q ∷ later) new_cover
  pub kept : (later : List QuadView) → IsCover later old_cover → AreKept later (quads_view (reverse old_kept))
      → AreKept (q ∷ later) (quads_view (reverse new_kept))
