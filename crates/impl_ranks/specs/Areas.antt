-- The area near a viewport, outside of which no tile has a bin.
use Rattle.std.specs.Prelude.{◌≡◌, ℕ, ◌+◌, ◌≤◌, pos, ◌+ℤ◌, ◌-ℤ◌, ◌<ℤ◌, ◌≤ℤ◌, true}
use Rattle.geom.specs.declared.rect.Rect.{Rect}
use Rattle.geom.specs.Common.{meets}
use Rattle.tile_priority.specs.declared.tile.Borders.{Borders}
use Rattle.tile_priority.specs.declared.tile.Seen.{Seen}

-- a rect with the given number of pixels more on each side
abbrev pub inflated : ℕ → Rect → Rect
inflated n r = record { x = r.x -ℤ pos n; y = r.y -ℤ pos n; w = r.w +ℤ pos (n + n); h = r.h +ℤ pos (n + n) }

-- the viewport, made larger by the eventually border and one pixel on each side
abbrev pub area_near : Borders → Rect
area_near b = inflated (b.eventually + 1) b.viewport

-- a tile and its clip, which lies in the viewport; both sides of the tile are some pixels
pub record IsSeenNear (b : Borders) (seen : Seen) : Type 0 where
  pub wide : pos 0 <ℤ seen.screen.w
  pub tall : pos 0 <ℤ seen.screen.h
  pub inside : meets seen.screen seen.clip ≡ true → meets seen.screen b.viewport ≡ true
  pub view_w : pos 0 ≤ℤ b.viewport.w
  pub view_h : pos 0 ≤ℤ b.viewport.h
  pub borders : b.soon ≤ b.eventually
