-- What the calls of C tell.
use Rattle.std.specs.Prelude.{◌≡◌, ◌⊎◌, ◌==◌, ◌*◌, ℕ, ◌≤◌, ℤ, true, false, List, [], ◌∷◌, length}
use Rattle.geom.specs.declared.rect.Point.{Point}
use Rattle.pixel.specs.Colours.{Parts}
use Rattle.page_layers.specs.declared.view.View.{View}
use Rattle.page_layers.specs.Pages.{IsView}
use Rattle.page_layers.specs.Axes.{across, down}
use Rattle.page_layers.specs.Scrollers.{has_scroller}
use Rattle.page_layers.specs.Effects.{scrolled_by, page_after_pulls}
use Rattle.page_layers.specs.Hits.{target}
use Rattle.page_layers.specs.Wheels.{wheel_parts, wheel_rest}
use Rattle.page_hit_test.specs.Wheels.{IsAmount}
use Rattle.viz_canvas.specs.Canvases.{CanvasView, IsOfSize, EachIs, black}
use Rattle.cc.specs.declared.damage.FrameRows.{FrameRows}
use Rattle.viz_painter.specs.Painters.{IsKeptOutside}
use Rattle.cc.specs.Compositors.{CompositorView, ShowsPage, AreRowsOf, IsKeptOutsideRows, offsets, empty_page, amount_scrolled, move_by, moved}
use Rattle.cc_c.specs.Copies.{HoldsRows, KeepsBetween, HasRoom, rgba}

-- both pages are empty and have this view; the frame has its size, and is black and opaque
pub record IsNew (view : View) (colour : Parts) (new : CompositorView) : Type 0 where
  pub main : new.main ≡ empty_page view
  pub active : new.active ≡ empty_page view
  pub background : new.background ≡ colour
  pub size : IsOfSize view.w view.h new.frame
  pub black : EachIs 4 (λ x y. rgba black) new.frame
  pub damage : new.damage ≡ []

-- 0: the main page is an empty one of this view, and all else is as it was; 1: the view is out of its ranges, and all is as it was
pub record TellsReset (old : CompositorView) (view : View) (new : CompositorView) (status : ℕ) : Type 0 where
  pub done : status ≡ 0 → IsView view × (new ≡ record old { main = empty_page view })
  pub bad : status ≡ 1 → (IsView view → ⊥) × (new ≡ old)
  pub answers : (status ≡ 0) ⊎ (status ≡ 1)

-- 0: the active page is the main page; 11: memory ran out, and all is as it was
pub record TellsCommit (old new : CompositorView) (status : ℕ) : Type 0 where
  pub done : status ≡ 0 → new ≡ record old { active = old.main }
  pub memory : status ≡ 11 → new ≡ old
  pub answers : (status ≡ 0) ⊎ (status ≡ 11)

-- 0: the frame shows the active page, and outside of the rows that are told, which are rows of it, it is as it was; 11: memory ran out, and no rows are told; the pages stay, and so does the frame outside of the damage
pub record TellsDraw (old : CompositorView) (before rows : FrameRows) (new : CompositorView) (status : ℕ) : Type 0 where
  pub shown : status ≡ 0 → ShowsPage 4 rgba new.active (offsets new) new.background new.frame
  pub kept : status ≡ 0 → IsKeptOutsideRows 4 rows old.frame new.frame
  pub inside : status ≡ 0 → AreRowsOf new.frame.h rows
  pub memory : status ≡ 11 → rows ≡ before
  pub rects : IsKeptOutside 4 new.damage old.frame new.frame
  pub main : new.main ≡ old.main
  pub active : new.active ≡ old.active
  pub background : new.background ≡ old.background
  pub answers : (status ≡ 0) ⊎ (status ≡ 11)

-- 0: the active page scrolled as far as it was told, and the main page took the same; 2: the active page has no such scroller, all is as it was, and nothing is told
pub record TellsScroll (old : CompositorView) (id : ℕ) (dx dy : ℤ) (before told : Point) (new : CompositorView) (status : ℕ) : Type 0 where
  pub there : status ≡ 0 → has_scroller old.active id ≡ true
  pub across : status ≡ 0 → told.x ≡ (amount_scrolled old.active id dx dy).x
  pub down : status ≡ 0 → told.y ≡ (amount_scrolled old.active id dx dy).y
  pub takes : status ≡ 0 → new ≡ record old { active = scrolled_by old.active id dx dy; main = page_after_pulls (move_by id told ∷ []) old.main }
  pub unknown : status ≡ 2 → (has_scroller old.active id ≡ false) × (new ≡ old) × (told ≡ before)
  pub answers : (status ≡ 0) ⊎ (status ≡ 2)

-- 0: both pages took what the scrollers under the point take, and what these left is told; 1: more was asked than may be; 11: memory ran out; after these two all is as it was, and nothing is told
pub record TellsWheel (old : CompositorView) (at asked before told : Point) (new : CompositorView) (status : ℕ) : Type 0 where
  pub within_x : status ≡ 0 → IsAmount asked.x
  pub within_y : status ≡ 0 → IsAmount asked.y
  pub across : status ≡ 0 → told.x ≡ wheel_rest old.active (offsets old) at.x at.y across asked.x
  pub down : status ≡ 0 → told.y ≡ wheel_rest old.active (offsets old) at.x at.y down asked.y
  pub takes : status ≡ 0 → new ≡ moved (wheel_parts old.active (offsets old) at.x at.y asked.x asked.y) old
  pub bad : status ≡ 1 → (IsAmount asked.x × IsAmount asked.y → ⊥) × (new ≡ old) × (told ≡ before)
  pub memory : status ≡ 11 → (new ≡ old) × (told ≡ before)
  pub answers : (status ≡ 0) ⊎ (status ≡ 1) ⊎ (status ≡ 11)

-- 0: the topmost layer at the point is told; 11: memory ran out, and nothing is told
pub record TellsTarget (old : CompositorView) (at : Point) (before told : ℕ) (status : ℕ) : Type 0 where
  pub done : status ≡ 0 → told ≡ target old.active (offsets old) at.x at.y
  pub memory : status ≡ 11 → told ≡ before
  pub answers : (status ≡ 0) ⊎ (status ≡ 11)

-- 0: the frame shows the active page; 1: it may not
pub record TellsChanged (old : CompositorView) (answer : ℕ) : Type 0 where
  pub shown : answer ≡ 0 → ShowsPage 4 rgba old.active (offsets old) old.background old.frame
  pub answers : (answer ≡ 0) ⊎ (answer ≡ 1)

-- rows are asked for that may be copied: the order of the bytes is 0 or 1, and the first row does not lie below the end
pub record AsksRows (order top bottom : ℕ) : Type 0 where
  pub known : order ≤ 1
  pub down : top ≤ bottom

-- 0: the buffer has the rows, as red, green, blue and alpha if the order is 0, with red and blue exchanged if it is 1, and its other bytes are what they were; 1: no such rows may be asked for; 4: the frame lacks one of them, or the buffer has no room for them; after these two the buffer is as it was
pub record TellsCopy (f : CanvasView) (order top bottom stride : ℕ) (old new : List ℕ) (status : ℕ) : Type 0 where
  pub room : status ≡ 0 → HasRoom f top bottom stride (length old)
  pub done : status ≡ 0 → HoldsRows f (order == 1) top bottom stride new
  pub between : status ≡ 0 → KeepsBetween (4 * f.w) top bottom stride old new
  pub bad : status ≡ 1 → (AsksRows order top bottom → ⊥) × (new ≡ old)
  pub short : status ≡ 4 → (HasRoom f top bottom stride (length old) → ⊥) × (new ≡ old)
  pub asks : (status ≡ 1 → ⊥) → AsksRows order top bottom
  pub answers : (status ≡ 0) ⊎ (status ≡ 1) ⊎ (status ≡ 4)
