-- The JSON values of inputs, the members in the order of their names.
use Rattle.std.specs.Prelude.{ℕ, ℤ, codes}
use Rattle.serde_json.specs.Data.{Data, string, object, member, no_members}
use Rattle.model_history.specs.declared.input.Input.{Input}
use Rattle.model_history.specs.declared.input.Input.TheVariants.{Scroll, Wheel, Draw, Await, Settle}
use Rattle.script_fields.specs.Values.{number_data, int_data}

-- `scroll`
unfoldable pub scroll_data : ℕ → ℤ → ℤ → Data
scroll_data scroller dx dy =
    object (member (codes "dx") (int_data dx)
    (member (codes "dy") (int_data dy)
    (member (codes "op") (string (codes "scroll"))
    (member (codes "scroller") (number_data scroller)
    no_members))))

-- `wheel`
unfoldable pub wheel_data : ℕ → ℕ → ℤ → ℤ → Data
wheel_data x y dx dy =
    object (member (codes "dx") (int_data dx)
    (member (codes "dy") (int_data dy)
    (member (codes "op") (string (codes "wheel"))
    (member (codes "x") (number_data x)
    (member (codes "y") (number_data y)
    no_members)))))

-- `draw`
unfoldable pub draw_data : Data
draw_data = object (member (codes "op") (string (codes "draw")) no_members)

-- `await`
unfoldable pub await_data : ℕ → Data
await_data frame =
    object (member (codes "frame") (number_data frame)
    (member (codes "op") (string (codes "await"))
    no_members))

-- `settle`
unfoldable pub settle_data : Data
settle_data = object (member (codes "op") (string (codes "settle")) no_members)

-- an input
abbrev pub input_data : Input → Data
input_data (Scroll scroller dx dy) = scroll_data scroller dx dy
input_data (Wheel x y dx dy) = wheel_data x y dx dy
input_data Draw = draw_data
input_data (Await frame) = await_data frame
input_data Settle = settle_data
