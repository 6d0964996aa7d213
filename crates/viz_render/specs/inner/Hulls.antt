-- The columns and rows of an area that something is drawn in.
use Rattle.std.specs.Prelude.{ℕ, ◌≤◌, Bool, ◌&&◌, nat_le, nat_lt}
use Rattle.geom.specs.declared.Rect.{Rect}
use Rattle.page_display_list.specs.Bitmaps.{near}
use Rattle.viz_render.specs.declared.hull.Hull.{Hull}

-- the number is one of those from `start` to before `end`
unfoldable pub between : ℕ → ℕ → ℕ → Bool
between start end n = nat_le start n && nat_lt n end

-- the column and the row are the hull's
abbrev pub in_hull : Hull → ℕ → ℕ → Bool
in_hull hull x y = between hull.left hull.right x && between hull.top hull.bottom y

-- the columns and rows are an area's
pub record IsHullIn (area : Rect) (hull : Hull) : Type 0 where
  pub across : hull.right ≤ near area.w
  pub down : hull.bottom ≤ near area.h
