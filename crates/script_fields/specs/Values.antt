-- The JSON values of numbers, colours, rects and bytes, as a canonical text has them.
use Rattle.std.specs.Prelude.{ℕ, ℤ, List}
use Rattle.geom.specs.declared.rect.Rect.{Rect}
use Rattle.pixel.specs.Colours.{Parts}
use Rattle.serde_json.specs.Data.{Data, number, unsigned, string, array, item, no_items}
use Rattle.serde_json.specs.Find.{of_integer}
use Rattle.script_fields.specs.Hex.{bytes_digits, six_digits, eight_digits}

-- a number that is not below 0
unfoldable pub number_data : ℕ → Data
number_data n = number (unsigned n)

-- a number that may be below 0
unfoldable pub int_data : ℤ → Data
int_data z = number (of_integer z)

-- an opaque colour as six digits
unfoldable pub opaque_data : Parts → Data
opaque_data c = string (six_digits c)

-- a colour as eight digits
unfoldable pub colour_data : Parts → Data
colour_data c = string (eight_digits c)

-- bytes as digits, two a byte
unfoldable pub bytes_data : List ℕ → Data
bytes_data bytes = string (bytes_digits bytes)

-- a rect as a list: x, y, width and height
unfoldable pub rect_data : Rect → Data
rect_data r = array (item (int_data r.x) (item (int_data r.y) (item (int_data r.w) (item (int_data r.h) no_items))))

-- a width and a height as a list
unfoldable pub sides_data : ℕ → ℕ → Data
sides_data w h = array (item (number_data w) (item (number_data h) no_items))
