-- The offsets of scrollers: a map that gives the origin if it has no entry.
use Rattle.std.specs.Prelude.{ℕ, ◌^◌, pos, ◌≤ℤ◌, List, unwrap_or}
use Rattle.geom.specs.declared.rect.Point.{Point}
use Rattle.page_properties.specs.Entries.{find}

-- where a scroller stands that was not scrolled
abbrev pub origin : Point
origin = record { x = pos 0; y = pos 0 }

-- the offset of a scroller: what the map has for it, else (0, 0)
unfoldable pub offset_at : List (ℕ × Point) → ℕ → Point
offset_at offsets id = unwrap_or (find id offsets) origin

-- an offset of a scroller, from 0 to 2^20 on both axes
pub record IsOffset (p : Point) : Type 0 where
  pub left : pos 0 ≤ℤ p.x
  pub right : p.x ≤ℤ pos (2 ^ 20)
  pub upper : pos 0 ≤ℤ p.y
  pub lower : p.y ≤ℤ pos (2 ^ 20)

-- each offset is from 0 to 2^20 on both axes
abbrev pub AreOffsets : (ℕ → Point) → Type 0
AreOffsets offset = (id : ℕ) → IsOffset (offset id)
