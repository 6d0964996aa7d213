-- The fields of an object: each is of its form, or is the field at fault.
use Rattle.std.specs.Prelude.{ℕ, ℤ, pos, negsuc, List, nat_le, is_some, Result, Ok, Err, Option, option_map, option_and_then, unwrap_or, ⊤, if◌then◌else◌}
use Rattle.geom.specs.declared.rect.Rect.{Rect}
use Rattle.pixel.specs.Colours.{Parts}
use Rattle.serde_json.specs.Data.{Data, Items, Members}
use Rattle.serde_json.specs.Find.{get, as_object}
use Rattle.serde_json.specs.Events.{members_len}
use Rattle.script_fields.specs.declared.fault.FieldFault.{FieldFault}
use Rattle.script_fields.specs.declared.forms.Sides.{Sides}
use Rattle.script_fields.specs.Faults.{◌>>=◌, fault, or_fault}
use Rattle.script_fields.specs.Forms.{number_form, int_form, opaque_form, colour_form, rect_form, sides_form, list_form}

-- a member that is absent or not of its form is a fault of the field
abbrev pub field_at : {A : Type 0} → (Data → Option A) → List ℕ → ℕ → Data → Result A FieldFault
field_at form key field d = or_fault field (option_and_then form (get key d))

-- members of each form: a whole number, from `low` to `high` or of 32 bits; one that may be below 0, likewise; an opaque colour of six digits and a premultiplied one of eight; a rect; a width and a height from 1 to `most`; a list of at most `most` elements
unfoldable pub number_at : List ℕ → ℕ → ℕ → ℕ → Data → Result ℕ FieldFault
number_at key low high field d = field_at (number_form low high) key field d

unfoldable pub whole_at : List ℕ → ℕ → Data → Result ℕ FieldFault
whole_at key field d = number_at key 0 4294967295 field d

unfoldable pub int_at : List ℕ → ℤ → ℤ → ℕ → Data → Result ℤ FieldFault
int_at key low high field d = field_at (int_form low high) key field d

unfoldable pub signed_at : List ℕ → ℕ → Data → Result ℤ FieldFault
signed_at key field d = int_at key (negsuc 2147483647) (pos 2147483647) field d

unfoldable pub opaque_at : List ℕ → ℕ → Data → Result Parts FieldFault
opaque_at key field d = field_at opaque_form key field d

unfoldable pub colour_at : List ℕ → ℕ → Data → Result Parts FieldFault
colour_at key field d = field_at colour_form key field d

unfoldable pub rect_at : List ℕ → ℕ → Data → Result Rect FieldFault
rect_at key field d = field_at rect_form key field d

unfoldable pub sides_at : List ℕ → ℕ → ℕ → Data → Result Sides FieldFault
sides_at key most field d = field_at (sides_form most) key field d

unfoldable pub list_at : List ℕ → ℕ → ℕ → Data → Result Items FieldFault
list_at key most field d = field_at (list_form most) key field d

-- a value that is no object is a fault of field 0
unfoldable pub object_at : Data → Result ⊤ FieldFault
object_at d = if is_some (as_object d) then Ok tt else Err (fault 0)

-- how many members an object has; none for any other value
abbrev pub member_count : Option Members → ℕ
member_count members = unwrap_or (option_map members_len members) 0

-- after the given number of fields were found, a further member is a fault of field 99: an object has each name once, so it has no other members exactly if it has no more than were found
unfoldable pub no_more_members : ℕ → Data → Result ⊤ FieldFault
no_more_members fields d = if nat_le (member_count (as_object d)) fields then Ok tt else Err (fault 99)

-- what was read of an object in which the given number of fields were found, if it has no further member
abbrev pub if_no_more : {A : Type 0} → ℕ → Data → A → Result A FieldFault
if_no_more fields d x = no_more_members fields d >>= λ u. Ok x
