-- Compositors: the page that commands change, the page that is shown, and the frame.
use Rattle.std.specs.Prelude.{⊤, ℕ, ℤ, pos, ◌≡◌, ◌<◌, ◌≤◌, ◌&&◌, nat_le, nat_lt, Bool, true, false, Result, Ok, Err, List, [], ◌∷◌, map, Option, Some, None}
use Rattle.geom.specs.declared.rect.Point.{Point}
use Rattle.geom.specs.declared.rect.Rect.{Rect}
use Rattle.geom.specs.Covers.{covers}
use Rattle.pixel.specs.Colours.{Parts}
use Rattle.page_properties.specs.Placement.{minus}
use Rattle.page_layers.specs.declared.view.View.{View}
use Rattle.page_layers.specs.declared.command.Command.{Command}
use Rattle.page_layers.specs.declared.fault.EditError.{EditError}
use Rattle.page_layers.specs.declared.fault.EditError.TheVariants as error
use Rattle.page_layers.specs.declared.moves.Move.{Move}
use Rattle.page_layers.specs.Pages.{Page, viewport}
use Rattle.page_layers.specs.Effects.{page_after_command, main_point, scrolled_by, page_after_pulls}
use Rattle.page_layers.specs.Outcomes.{Accepts, Refuses}
use Rattle.page_layers.specs.Scrollers.{has_scroller}
use Rattle.page_layers.specs.TreePainting.{paint}
use Rattle.page_hit_test.specs.declared.wheels.Wheel.{Wheel}
use Rattle.page_hit_test.specs.Wheels.{part_move}
use Rattle.viz_scene.specs.Views.{SceneView}
use Rattle.viz_scene.specs.Pixels.{scene_pixel}
use Rattle.viz_canvas.specs.Canvases.{CanvasView, IsOfSize, EachIs, canvas_pixel}
use Rattle.cc.specs.declared.damage.FrameRows.{FrameRows}

-- the page that commands change; the page that is shown, whose scrollers stand at its main values; what stands below its layers; the frame; and the rects outside of which the last draw left it as it was
pub record CompositorView : Type 0 where
  pub main : Page
  pub active : Page
  pub background : Parts
  pub frame : CanvasView
  pub damage : List Rect

-- where the scrollers of the active page stand
abbrev pub offsets : CompositorView → ℕ → Point
offsets c = main_point c.active

-- a page without layers and nodes
abbrev pub empty_page : View → Page
empty_page view = record { view = view; props = record { transforms = []; clips = []; effects = []; scrollers = [] }; layers = []; used = []; values = [] }

-- a frame has the size of a page's view, and the bytes of each of its pixels are those of the direct painting of the page at these offsets, with no tile missing
pub record ShowsPage (depth : ℕ) (bytes_of : Parts → List ℕ) (p : Page) (offset : ℕ → Point) (background : Parts) (f : CanvasView) : Type 0 where
  pub size : IsOfSize p.view.w p.view.h f
  pub pixels : EachIs depth (λ x y. bytes_of (paint p offset [] background (pos x) (pos y))) f

-- a command was applied to a page, or refused with its first fault, or memory ran out; after any error the page is as it was
abbrev pub AppliedTo : Page → Command → Page → Result ⊤ EditError → Type 0
AppliedTo old c new (Ok u) = Accepts old c × (new ≡ page_after_command old c)
AppliedTo old c new (Err (error.Refused fault)) = Refuses old c fault × (new ≡ old)
AppliedTo old c new (Err (error.Memory e)) = new ≡ old

-- a command was applied to the main page, or refused with its first fault, or memory ran out; after any error all is as it was
abbrev pub Applied : CompositorView → Command → CompositorView → Result ⊤ EditError → Type 0
Applied old c new (Ok u) = Accepts old.main c × (new ≡ record old { main = page_after_command old.main c })
Applied old c new (Err (error.Refused fault)) = Refuses old.main c fault × (new ≡ old)
Applied old c new (Err (error.Memory e)) = new ≡ old

-- both pages took these moves of scrollers
abbrev pub moved : List Move → CompositorView → CompositorView
moved ms c = record c { main = page_after_pulls ms c.main; active = page_after_pulls ms c.active }

-- how far a scroller of a page moves if this much is asked
abbrev pub amount_scrolled : Page → ℕ → ℤ → ℤ → Point
amount_scrolled p id dx dy = minus (main_point (scrolled_by p id dx dy) id) (main_point p id)

abbrev pub move_by : ℕ → Point → Move
move_by id by = record { scroller = id; dx = by.x; dy = by.y }

-- the active page took the scroll as far as the range of the scroller allows, and the main page took what that was; or the active page has no such scroller, and all is as it was
abbrev pub Scrolled : CompositorView → ℕ → ℤ → ℤ → CompositorView → Option Point → Type 0
Scrolled old id dx dy new None = (has_scroller old.active id ≡ false) × (new ≡ old)
Scrolled old id dx dy new (Some by) =
    (has_scroller old.active id ≡ true) × (by ≡ amount_scrolled old.active id dx dy)
    × (new ≡ record old { active = scrolled_by old.active id dx dy; main = page_after_pulls (move_by id by ∷ []) old.main })

-- the moves that a wheel makes
abbrev pub wheel_moves : Wheel → List Move
wheel_moves w = map part_move w.parts

-- the row is one of some rows
abbrev pub has_row : FrameRows → ℕ → Bool
has_row rows y = nat_le rows.top y && nat_lt y rows.bottom

-- outside of some rows a frame has the pixels of the frame before
pub record IsKeptOutsideRows (depth : ℕ) (rows : FrameRows) (old new : CanvasView) : Type 0 where
  pub pixels : (x y : ℕ) → x < new.w → y < new.h → has_row rows y ≡ false → canvas_pixel depth new x y ≡ canvas_pixel depth old x y

-- the rows are some of a frame of this height, or none
pub record AreRowsOf (height : ℕ) (rows : FrameRows) : Type 0 where
  pub order : rows.top ≤ rows.bottom
  pub inside : rows.bottom ≤ height

-- a scene has the size of a page's view and shows the direct painting of the page in the viewport
pub record IsSceneOf (p : Page) (offset : ℕ → Point) (background : Parts) (s : SceneView) : Type 0 where
  pub width : s.w ≡ p.view.w
  pub height : s.h ≡ p.view.h
  pub pixels : (x y : ℤ) → covers (viewport p) x y ≡ true → scene_pixel s x y ≡ paint p offset [] background x y
