-- The text of an object, as its members are written one after another.
use Rattle.std.specs.Prelude.{ℕ, List, [], ◌∷◌, ◌++◌, codes}
use Rattle.std.specs.Borrow.{Bor}
use Rattle.json.specs.Print.{quoted}
use Rattle.serde_json.specs.Data.{Data, string}
use Rattle.serde_json.specs.Written.{compact_text}
use Rattle.script_fields.specs.Values.{number_data, int_data, opaque_data, colour_data, bytes_data, rect_data, sides_data}
use Rattle.model_history.specs.Scripts.{ScriptModel}
use Rattle.script_json.specs.ScriptValue.{priority_name, main_data, inputs_data}
use Rattle.script_json.specs.declared.print.field.Field.{Field}
use Rattle.script_json.specs.declared.print.field.Field.TheVariants as field

-- the text of a value; a name stands as it is between quotes
abbrev pub field_text : Field → List ℕ
field_text (field.Number n) = compact_text (number_data n)
field_text (field.Signed z) = compact_text (int_data z.now)
field_text (field.Name name) = 34 ∷ (name.now ++ 34 ∷ [])
field_text (field.Opaque colour) = compact_text (opaque_data colour)
field_text (field.Colour colour) = compact_text (colour_data colour)
field_text (field.Rect rect) = compact_text (rect_data rect)
field_text (field.Sides w h) = compact_text (sides_data w h)
field_text (field.Bytes bytes) = compact_text (bytes_data bytes.now)

-- a byte and a member after it, whose name stands as it is between quotes
abbrev pub member_text : ℕ → List ℕ → Field → List ℕ
member_text before name field = before ∷ 34 ∷ (name ++ 34 ∷ 58 ∷ field_text field)

-- members, this byte before the first one, a comma before each other
abbrev pub members_text : ℕ → List (Bor (List ℕ) × Field) → List ℕ
members_text before [] = []
members_text before (m ∷ ms) = member_text before m.0.now m.1 ++ members_text 44 ms

-- the same with the bracket that closes their object
abbrev pub object_text : ℕ → List (Bor (List ℕ) × Field) → List ℕ
object_text before [] = 125 ∷ []
object_text before (m ∷ ms) = member_text before m.0.now m.1 ++ object_text 44 ms

-- a byte and a member of this value after it
abbrev pub data_member : ℕ → List ℕ → Data → List ℕ
data_member before name d = before ∷ (quoted name ++ 58 ∷ compact_text d)

-- the members of a script before its lists
abbrev pub head_text : ScriptModel → List ℕ
head_text s =
    data_member 123 (codes "background") (opaque_data s.background)
    ++ (data_member 44 (codes "budget") (number_data s.budget) ++ (data_member 44 (codes "eventually") (number_data s.eventually) ++ []))

-- its lists
abbrev pub lists_text : ScriptModel → List ℕ
lists_text s = data_member 44 (codes "inputs") (inputs_data s.inputs) ++ data_member 44 (codes "main") (main_data s.main)

-- the members after its lists, with the closing bracket
abbrev pub tail_text : ScriptModel → List ℕ
tail_text s =
    data_member 44 (codes "priority") (string (priority_name s.priority))
    ++ (data_member 44 (codes "raster_per_frame") (number_data s.raster_per_frame)
    ++ (data_member 44 (codes "soon") (number_data s.soon)
    ++ (data_member 44 (codes "tile") (number_data s.tile)
    ++ (data_member 44 (codes "version") (number_data s.version)
    ++ (data_member 44 (codes "viewport") (sides_data s.viewport_w s.viewport_h) ++ 125 ∷ [])))))
