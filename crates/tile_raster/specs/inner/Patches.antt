-- What items of one colour show in a picture, and in one of its rows.
use Rattle.std.specs.Prelude.{◌≡◌, ◌<◌, ◌≤◌, ℕ, ◌+◌, ◌*◌, Bool, ◌&&◌, cond, nat_le, nat_lt, List, fold, slice_index}
use Rattle.geom.specs.declared.Rect.{Rect}
use Rattle.pixel.specs.Colours.{Parts, blend, clear}
use Rattle.pixel.specs.Rows.{pixel}
use Rattle.page_display_list.specs.declared.Item.{Item}
use Rattle.page_display_list.specs.Bitmaps.{near}
use Rattle.tile_raster.specs.Images.{list_colour}
use Rattle.tile_raster.specs.declared.patches.Patch.{Patch}
use Rattle.tile_raster.specs.declared.spans.Span.{Span}

-- a span has this column
abbrev pub has_column : Span → ℕ → Bool
has_column span x = nat_le span.left x && nat_lt x span.right

-- a span laid over a colour in column x
abbrev pub spanned : ℕ → Parts → Span → Parts
spanned x below span = cond (has_column span x) (blend below span.colour) below

-- what spans show in column x, each laid over those before it
abbrev pub spans_show : List Span → ℕ → Parts
spans_show spans x = fold (spanned x) clear spans

-- over any colour, spans show in the columns from x to before `end` what they show in column x
abbrev pub AreAlike : List Span → ℕ → ℕ → Type 0
AreAlike spans x end = (z : ℕ) → x ≤ z → z < end → (below : Parts) → fold (spanned z) below spans ≡ fold (spanned x) below spans

-- a patch laid over a colour in column x of row y
abbrev pub patched : ℕ → ℕ → Parts → Patch → Parts
patched x y below patch = cond (nat_le patch.top y && nat_lt y patch.bottom) (spanned x below patch.span) below

-- what patches show in column x of row y, each laid over those before it
abbrev pub patches_show : List Patch → ℕ → ℕ → Parts
patches_show patches x y = fold (patched x y) clear patches

-- patches show the same in row y and in the row below it
abbrev pub AreLevelPatches : List Patch → ℕ → Type 0
AreLevelPatches patches y = (x : ℕ) → patches_show patches x y ≡ patches_show patches x (y + 1)

-- patches show on a rect what a list shows there
abbrev pub ShowList : List Item → Rect → List Patch → Type 0
ShowList list r patches = (x y : ℕ) → x < near r.w → y < near r.h → patches_show patches x y ≡ list_colour list r x y

-- the rows of a picture above row y are drawn, each at its place among the rows that are kept
abbrev pub AreDrawnTo : List Item → Rect → List ℕ → ℕ → List ℕ → Type 0
AreDrawnTo list r places y bytes = (x z : ℕ) → x < near r.w → z < y → pixel bytes (slice_index places z * near r.w + x) ≡ list_colour list r x z
