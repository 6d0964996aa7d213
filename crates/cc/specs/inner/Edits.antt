-- Where on the screen commands change what a page looks like.
use Rattle.std.specs.Prelude.{◌≡◌, ℕ, ◌<◌, ℤ, pos, Bool, true, false, ◌&&◌, ◌||◌, find, slice_get, Option, Some, List, []}
use Rattle.geom.specs.declared.rect.Rect.{Rect}
use Rattle.geom.specs.Covers.{covers}
use Rattle.pixel.specs.Colours.{Parts}
use Rattle.region.specs.declared.change.LayerChange.{LayerChange}
use Rattle.region.specs.Points.{covered}
use Rattle.page_properties.specs.Placement.{clip_of}
use Rattle.page_layers.specs.declared.command.Command.{Command}
use Rattle.page_layers.specs.declared.command.Command.TheVariants as command
use Rattle.page_layers.specs.Layers.{PageLayer, has_id}
use Rattle.page_layers.specs.Pages.{Page, viewport}
use Rattle.page_layers.specs.Effects.{main_point}
use Rattle.page_layers.specs.TreePainting.{paint, point_in}
use Rattle.tile_visible.specs.Visible.{cut_by}

-- two pages have one view, and look alike at each pixel of it outside of some rects, over any background
pub record LookAlikeOutside (rects : List Rect) (p q : Page) : Type 0 where
  pub view : p.view ≡ q.view
  pub pixels : (background : Parts) (x y : ℕ) → x < p.view.w → y < p.view.h → covered rects (pos x) (pos y) ≡ false
      → paint p (main_point p) [] background (pos x) (pos y) ≡ paint q (main_point q) [] background (pos x) (pos y)

-- the rects cover the points that the others cover, and no more
pub record CoverBoth (first second all : List Rect) : Type 0 where
  pub points : (x y : ℤ) → covered all x y ≡ (covered first x y || covered second x y)

-- both lists of rects are known, and these cover what they cover
pub record IsKnownUnion (a b : Option (List Rect)) (all : List Rect) : Type 0 where
  pub first : List Rect
  pub second : List Rect
  pub known : a ≡ Some first
  pub also_known : b ≡ Some second
  pub both : CoverBoth first second all

-- the command changes nothing but the items of one layer
abbrev pub changes_items : Command → Bool
changes_items (command.InsertItem c) = true
changes_items (command.RemoveItem c) = true
changes_items (command.ReplaceItem c) = true
changes_items _ = false

-- a layer shows one of its rects at a point of the screen: the rects cover the point, moved back, and the part of the viewport that the layer's clip lets through covers it
abbrev pub shows_rects : Page → List Rect → PageLayer → ℤ → ℤ → Bool
shows_rects p rects l x y =
    covered rects (point_in p (main_point p) l x y).x (point_in p (main_point p) l x y).y
    && covers (cut_by (viewport p) (clip_of (main_point p) p.props.transforms p.props.clips l.clip)) x y

-- some rects of the screen cover each point at which the layer that a change names shows what was changed
pub record CoverChange (p : Page) (c : LayerChange) (rects : List Rect) : Type 0 where
  pub points : (l : PageLayer) (x y : ℤ) → find (has_id c.layer) p.layers ≡ Some l → covered rects x y ≡ false → shows_rects p c.region l x y ≡ false

-- the same of the first of some changes
pub record CoverFirst (p : Page) (cs : List LayerChange) (rects : List Rect) : Type 0 where
  pub first : (c : LayerChange) → slice_get cs 0 ≡ Some c → CoverChange p c rects

-- a command that changes items was noted in rects that were known: they cover what they covered, and where its changes show in the page after it
pub record IsNoted (before : Option (List Rect)) (c : Command) (p : Page) (cs : List LayerChange) (after : List Rect) : Type 0 where
  pub old : List Rect
  pub new : List Rect
  pub known : before ≡ Some old
  pub items : changes_items c ≡ true
  pub changes : CoverFirst p cs new
  pub both : CoverBoth old new after
