-- What a compositor notes of its pages and its frame, so that work is done once.
use Rattle.std.specs.Prelude.{◌≡◌, ◌<◌, ℕ, pos, Bool, true, false, List, [], ◌∷◌, Option, Some, None, IfSome}
use Rattle.geom.specs.declared.rect.Rect.{Rect}
use Rattle.pixel.specs.Colours.{Parts}
use Rattle.region.specs.Points.{covered}
use Rattle.page_layers.specs.Pages.{Page}
use Rattle.page_layers.specs.Effects.{main_point}
use Rattle.page_layers.specs.TreePainting.{paint}
use Rattle.viz_canvas.specs.Canvases.{CanvasView, IsOfSize, canvas_pixel}
use Rattle.cc.specs.inner.Edits.{LookAlikeOutside}

-- if it is set, the main page is the active one
pub record TellsCommitted (flag : Bool) (active main : Page) : Type 0 where
  pub same : flag ≡ true → active ≡ main

-- if they are known, the main page looks like the active one outside of these rects
pub record TellsEdited (edited : Option (List Rect)) (active main : Page) : Type 0 where
  pub alike : IfSome edited (λ rects. LookAlikeOutside rects active main)

-- a frame has the size of a page's view, and shows the page outside of some rects
pub record ShowsPageOutside (depth : ℕ) (bytes_of : Parts → List ℕ) (rects : List Rect) (p : Page) (background : Parts) (f : CanvasView) : Type 0 where
  pub size : IsOfSize p.view.w p.view.h f
  pub pixels : (x y : ℕ) → x < f.w → y < f.h → covered rects (pos x) (pos y) ≡ false
      → canvas_pixel depth f x y ≡ bytes_of (paint p (main_point p) [] background (pos x) (pos y))

-- if they are known, the frame shows the active page outside of these rects
pub record TellsShown (depth : ℕ) (bytes_of : Parts → List ℕ) (unshown : Option (List Rect)) (active : Page) (background : Parts) (f : CanvasView) : Type 0 where
  pub shows : IfSome unshown (λ rects. ShowsPageOutside depth bytes_of rects active background f)

-- the damage of the last draw: the whole frame if it was refused after the frame may have changed, else that of the painter, or none if nothing was painted
abbrev pub damage_in : Option Rect → Bool → List Rect → List Rect
damage_in (Some whole) is_painted rects = whole ∷ []
damage_in None true rects = rects
damage_in None false rects = []
