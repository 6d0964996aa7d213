-- Items of display lists: what is painted.
use Rattle.std.specs.Prelude.{ℕ, List, codes, Option, Some, None, option_map, option_and_then, Result, if◌then◌else◌}
use Rattle.serde_json.specs.Data.{Data}
use Rattle.serde_json.specs.Find.{get}
use Rattle.geom.specs.declared.rect.Rect.{Rect}
use Rattle.page_display_list.specs.declared.item.Item.{Item}
use Rattle.page_display_list.specs.declared.item.Item.TheVariants as item
use Rattle.model_history.specs.Ranges.{is_picture}
use Rattle.script_fields.specs.declared.fault.FieldFault.{FieldFault}
use Rattle.script_fields.specs.Faults.{or_fault}
use Rattle.script_fields.specs.Forms.{colour_form, bytes_form}

-- the bitmap of these bytes, if they are the pixels of the rect
abbrev pub if_picture : Rect → List ℕ → Option Item
if_picture rect bytes = if is_picture rect bytes then Some (item.Bitmap (record { rect = rect; pixels = bytes })) else None

-- a text of the pixels' digits: eight a pixel, row by row from the top
unfoldable pub pixels_form : Rect → Data → Option Item
pixels_form rect d = option_and_then (if_picture rect) (bytes_form d)

-- what is painted: a colour or pixels, and not both; pixels are right for the rect
abbrev pub paint_of : Rect → Option Data → Option Data → Option Item
paint_of rect (Some colour) None = option_map (item.Rect rect) (colour_form colour)
paint_of rect None (Some pixels) = pixels_form rect pixels
paint_of rect None None = None
paint_of rect (Some colour) (Some pixels) = None

-- the paint of an object whose rect was read before it
unfoldable pub paint_at : Rect → ℕ → Data → Result Item FieldFault
paint_at rect field d = or_fault field (paint_of rect (get (codes "colour") d) (get (codes "pixels") d))
