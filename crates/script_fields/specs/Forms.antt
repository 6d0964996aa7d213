-- The forms of the values in a script: what a JSON value of the form represents, or none.
use Rattle.std.specs.Prelude.{ℕ, ℤ, pos, negsuc, List, ◌&&◌, ◌==◌, nat_le, int_le, Option, Some, None, option_map, option_and_then, if◌then◌else◌}
use Rattle.geom.specs.declared.rect.Rect.{Rect}
use Rattle.pixel.specs.Colours.{Parts}
use Rattle.serde_json.specs.Data.{Data, Items}
use Rattle.serde_json.specs.Find.{as_number, as_u64, as_i64, as_str, as_array, at}
use Rattle.serde_json.specs.Events.{items_len}
use Rattle.script_fields.specs.declared.forms.Sides.{Sides}
use Rattle.script_fields.specs.Hex.{bytes_of, colour_of_six, colour_of_eight}

-- a whole number from `low` to `high`, and one that may be below 0
unfoldable pub number_form : ℕ → ℕ → Data → Option ℕ
number_form low high d = option_and_then (λ n. if nat_le low n && nat_le n high then Some n else None) (option_and_then as_u64 (as_number d))

unfoldable pub int_form : ℤ → ℤ → Data → Option ℤ
int_form low high d = option_and_then (λ z. if int_le low z && int_le z high then Some z else None) (option_and_then as_i64 (as_number d))

-- a text of digits, two a byte: six for an opaque colour, eight for a premultiplied one, or as many as there are
unfoldable pub opaque_form : Data → Option Parts
opaque_form d = option_and_then colour_of_six (as_str d)

unfoldable pub colour_form : Data → Option Parts
colour_form d = option_and_then colour_of_eight (as_str d)

unfoldable pub bytes_form : Data → Option (List ℕ)
bytes_form d = option_and_then bytes_of (as_str d)

-- a list of exactly four whole numbers of 32 bits with a sign: x, y, width and height; each element by its place
unfoldable pub corner_at : ℕ → Data → Option ℤ
corner_at i d = option_and_then (int_form (negsuc 2147483647) (pos 2147483647)) (at i d)

unfoldable pub corners_of : Data → Option Rect
corners_of d = option_and_then (λ x. option_and_then (λ y. option_and_then (λ w. option_map (λ h. record { x = x; y = y; w = w; h = h })
    (corner_at 3 d)) (corner_at 2 d)) (corner_at 1 d)) (corner_at 0 d)

unfoldable pub rect_form : Data → Option Rect
rect_form d = option_and_then (λ ds. if items_len ds == 4 then corners_of d else None) (as_array d)

-- a list of exactly two whole numbers, each from 1 to `most`: width and height; each element by its place
unfoldable pub side_at : ℕ → ℕ → Data → Option ℕ
side_at i most d = option_and_then (number_form 1 most) (at i d)

unfoldable pub first_sides : ℕ → Data → Option Sides
first_sides most d = option_and_then (λ w. option_map (λ h. record { w = w; h = h }) (side_at 1 most d)) (side_at 0 most d)

unfoldable pub sides_form : ℕ → Data → Option Sides
sides_form most d = option_and_then (λ ds. if items_len ds == 2 then first_sides most d else None) (as_array d)

-- a list of at most `most` elements
unfoldable pub list_form : ℕ → Data → Option Items
list_form most d = option_and_then (λ ds. if nat_le (items_len ds) most then Some ds else None) (as_array d)
