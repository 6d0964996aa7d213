-- Why bytes are no bitmap of a rect.
use Rattle.std.specs.Prelude.{ℕ, List, length, true, false, ◌≡◌, ◌≢◌}
use Rattle.geom.specs.declared.Rect.{Rect}
use Rattle.pixel.specs.Rows.{IsFirstBadPixel}
use Rattle.page_display_list.specs.Bitmaps.{has_sides, byte_count}
use Rattle.page_display_list.specs.declared.bitmap.BitmapCause.{BitmapCause}
use Rattle.page_display_list.specs.declared.bitmap.BitmapCause.TheVariants.{Side, Length, Pixel}

-- the first thing that is wrong with these bytes as pixels of the rect: a side, else the count of bytes, else a pixel
abbrev pub IsBitmapCause : Rect → List ℕ → BitmapCause → Type 0
IsBitmapCause r bytes Side = has_sides r.w r.h ≡ false
IsBitmapCause r bytes (Length given wanted) = (has_sides r.w r.h ≡ true) × (given ≡ length bytes) × (wanted ≡ byte_count r.w r.h) × (given ≢ wanted)
IsBitmapCause r bytes (Pixel place) = (has_sides r.w r.h ≡ true) × (length bytes ≡ byte_count r.w r.h) × IsFirstBadPixel bytes place
