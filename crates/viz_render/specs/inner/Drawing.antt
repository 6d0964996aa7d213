-- What drawing into the pixels of an area is said in.
use Rattle.std.specs.Prelude.{ℕ, ◌+◌, ◌-◌, ◌*◌, ◌<◌, ℤ, pos, ◌+ℤ◌, ◌-ℤ◌, true, cond, List, length, map, All, ◌≤◌, ◌≡◌, slice_index_or, []}
use Rattle.geom.specs.declared.Rect.{Rect}
use Rattle.geom.specs.Covers.{covers, IsSound}
use Rattle.pixel.specs.Colours.{Parts, blend, clear}
use Rattle.pixel.specs.Rows.{pixel, ArePremultiplied}
use Rattle.pixel.specs.declared.Area.{Area}
use Rattle.page_display_list.specs.declared.CoveredArea.{CoveredArea}
use Rattle.page_display_list.specs.Bitmaps.{near, byte_count}
use Rattle.tile_raster.specs.Images.{Image, list_colour}
use Rattle.viz_scene.specs.Views.{QuadView, tiled, plain, grouped}
use Rattle.viz_scene.specs.Pixels.{quads_over}
use Rattle.viz_scene.specs.Sound.{IsIn, IsTaken}

-- a rect of the screen that is drawn at once: sound, with at most 2048 columns and 64 rows
pub record IsStrip (area : Rect) : Type 0 where
  pub sound : IsSound area
  pub wide : near area.w ≤ 2048
  pub low : near area.h ≤ 64

-- a part of such a rect for which an image has a pixel each
pub record IsImagePart (image : Image) (part : CoveredArea) : Type 0 where
  pub wide : part.at.x + part.at.w ≤ 2048
  pub low : part.at.y + part.at.h ≤ 64
  pub columns : part.left + part.at.w ≤ near image.rect.w
  pub rows : part.above + part.at.h ≤ near image.rect.h

-- rows `r` to `r + n` of an area
abbrev pub rows_from : Area → ℕ → ℕ → Area
rows_from at r n = record { x = at.x; y = at.y + r; w = at.w; h = n }

-- columns `c` to `c + n` of an area
abbrev pub columns_from : Area → ℕ → ℕ → Area
columns_from at c n = record { x = at.x + c; y = at.y; w = n; h = at.h }

-- the pixel of an image that belongs to a pixel of a part of it: `left` and `above` count columns and rows of the image
abbrev pub part_pixel : Image → CoveredArea → ℕ → ℕ → Parts
part_pixel image part x y = list_colour image.list image.rect (x - part.at.x + part.left) (y - part.at.y + part.above)

-- `c x y` laid over what was there if the rect covers the point
abbrev pub laid_on : Rect → (ℤ → ℤ → Parts) → ℤ → ℤ → Parts → Parts
laid_on at c x y below = cond (covers at x y) (blend below (c x y)) below

-- the pixels of a pass on a rect of the screen, as bytes row by row from the top; the bytes after them say nothing
pub record SurfaceView : Type 0 where
  pub rect : Rect
  pub bytes : List ℕ

-- what each surface keeps
pub record IsSurface (s : SurfaceView) : Type 0 where
  pub sound : IsSound s.rect
  pub room : byte_count s.rect.w s.rect.h ≤ length s.bytes
  pub premultiplied : ArePremultiplied s.bytes

-- the colour of a pass at a point: transparent if it has no pixel
unfoldable pub colour_of : SurfaceView → ℤ → ℤ → Parts
colour_of s x y = cond (covers s.rect x y) (pixel s.bytes (near (y -ℤ s.rect.y) * near s.rect.w + near (x -ℤ s.rect.x))) clear

-- the colours of passes at a point
abbrev pub colours : List SurfaceView → ℤ → ℤ → List Parts
colours surfaces x y = map (λ (s : SurfaceView). colour_of s x y) surfaces

-- a quad that can be drawn if there are surfaces of the given number of passes
abbrev pub CanBeDrawn : ℕ → QuadView → Type 0
CanBeDrawn n (tiled image at from) = IsSound at × IsTaken image at from
CanBeDrawn n (plain at colour) = IsSound at
CanBeDrawn n (grouped pass opacity) = pass < n

-- each surface has at least the given number of bytes
abbrev pub AreRoomy : ℕ → List SurfaceView → Type 0
AreRoomy n surfaces = All (λ (s : SurfaceView). n ≤ length s.bytes) surfaces

-- each quad of each pass can be drawn once the passes before its own are
abbrev pub PassesCanBeDrawn : List (List QuadView) → Type 0
PassesCanBeDrawn passes = (i : ℕ) → i < length passes → All (CanBeDrawn i) (slice_index_or passes i [])

-- one pass can be drawn on an area: that lies on the largest screen and is low enough, its quads can be drawn over the passes before it, and its surface has room for the pixels
pub record IsDrawable (strip : Rect) (drawn : List QuadView) (passes : List SurfaceView) (surface : SurfaceView) : Type 0 where
  pub area : IsIn 2048 2048 strip
  pub low : near strip.h ≤ 64
  pub quads : All (CanBeDrawn (length passes)) drawn
  pub room : byte_count strip.w strip.h ≤ length surface.bytes

-- the pixels of an area are quads over a colour, if the passes have surfaces of their own
abbrev pub ShowsQuads : Rect → List SurfaceView → Parts → List QuadView → List ℕ → Type 0
ShowsQuads area passes below quads bytes =
    (x y : ℕ) → x < near area.w → y < near area.h
    → pixel bytes (y * near area.w + x) ≡ quads_over (colours passes (area.x +ℤ pos x) (area.y +ℤ pos y)) (area.x +ℤ pos x) (area.y +ℤ pos y) below quads

-- the colours of a surface on an area are those of a pass of these quads
abbrev pub ShowsPass : Rect → List SurfaceView → List QuadView → SurfaceView → Type 0
ShowsPass area passes quads surface =
    (x y : ℤ) → covers area x y ≡ true → colour_of surface x y ≡ quads_over (colours passes x y) x y clear quads
