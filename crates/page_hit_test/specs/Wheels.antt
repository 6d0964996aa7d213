-- What a wheel is, and what may be asked of one.
use Rattle.std.specs.Prelude.{ℕ, ℤ, pos, neg_ℤ, ◌≡◌, ◌≤ℤ◌, map}
use Rattle.geom.specs.Limits.{max_scroll}
use Rattle.geom.specs.declared.rect.Point.{Point}
use Rattle.page_layers.specs.declared.moves.Move.{Move}
use Rattle.page_layers.specs.Axes.{Axis, across, down, along}
use Rattle.page_layers.specs.Scrollers.{most}
use Rattle.page_layers.specs.Scrolls.{IsInRange}
use Rattle.page_layers.specs.Pages.{Page}
use Rattle.page_layers.specs.Hits.{target}
use Rattle.page_layers.specs.Wheels.{wheel_parts, wheel_rest}
use Rattle.page_hit_test.specs.declared.parts.WheelPart.{WheelPart}
use Rattle.page_hit_test.specs.declared.wheels.Wheel.{Wheel}

-- the part of a scroller that moves by this much
abbrev pub wheel_part : ℕ → ℤ → ℤ → WheelPart
wheel_part sc dx dy = record { scroller = sc; by = record { x = dx; y = dy } }

-- the move that a part is
abbrev pub part_move : WheelPart → Move
part_move p = record { scroller = p.scroller; dx = p.by.x; dy = p.by.y }

-- each scroller of a page stands in its range, and a number that names none at the origin
abbrev pub AreWithinRanges : Page → (ℕ → Point) → Type 0
AreWithinRanges p offset = (sc : ℕ) (ax : Axis) → IsInRange (most p sc ax) (along ax (offset sc))

-- what may be asked along an axis: at most 1048576 in either direction
pub record IsAmount (z : ℤ) : Type 0 where
  pub least : neg_ℤ (pos max_scroll) ≤ℤ z
  pub greatest : z ≤ℤ pos max_scroll

-- what a wheel of this much at a point does: its target, the parts and the rest
pub record IsWheel (p : Page) (offset : ℕ → Point) (x y dx dy : ℤ) (w : Wheel) : Type 0 where
  pub hits : w.target ≡ target p offset x y
  pub parts : map part_move w.parts ≡ wheel_parts p offset x y dx dy
  pub rest_across : w.rest.x ≡ wheel_rest p offset x y across dx
  pub rest_down : w.rest.y ≡ wheel_rest p offset x y down dy
