-- The JSON value of the commands that name an item, the members in the order of their names.
use Rattle.std.specs.Prelude.{ℕ, List, codes}
use Rattle.serde_json.specs.Data.{Data, string, object, member, no_members}
use Rattle.geom.specs.declared.rect.Rect.{Rect}
use Rattle.pixel.specs.Colours.{Parts}
use Rattle.page_display_list.specs.Bitmaps.{BitmapModel}
use Rattle.page_display_list.specs.declared.item.Item.{Item}
use Rattle.page_display_list.specs.declared.item.Item.TheVariants as item
use Rattle.script_fields.specs.Values.{number_data, rect_data, colour_data, bytes_data}

-- an item of one colour in a command of this name
unfoldable pub rect_item_data : List ℕ → ℕ → ℕ → Rect → Parts → Data
rect_item_data op layer place rect colour =
    object (member (codes "at") (number_data place)
    (member (codes "colour") (colour_data colour)
    (member (codes "layer") (number_data layer)
    (member (codes "op") (string op)
    (member (codes "rect") (rect_data rect)
    no_members)))))

-- a bitmap in a command of this name
unfoldable pub bitmap_data : List ℕ → ℕ → ℕ → BitmapModel → Data
bitmap_data op layer place picture =
    object (member (codes "at") (number_data place)
    (member (codes "layer") (number_data layer)
    (member (codes "op") (string op)
    (member (codes "pixels") (bytes_data picture.pixels)
    (member (codes "rect") (rect_data picture.rect)
    no_members)))))

-- a command of this name that puts the item at a place of a layer's list
abbrev pub item_data : List ℕ → ℕ → ℕ → Item → Data
item_data op layer place (item.Rect rect colour) = rect_item_data op layer place rect colour
item_data op layer place (item.Bitmap picture) = bitmap_data op layer place picture
