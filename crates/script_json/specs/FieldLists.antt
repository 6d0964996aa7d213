-- The fields of a command: what is read of an object that has them, and what is printed for their values.
use Rattle.std.specs.Prelude.{ℕ, ◌+◌, List, [], ◌∷◌, codes, Result}
use Rattle.page_display_list.specs.Content.{rect_of_item}
use Rattle.page_display_list.specs.declared.item.Item.{Item}
use Rattle.page_display_list.specs.declared.item.Item.TheVariants as kind
use Rattle.page_layers.specs.FieldForms as form
use Rattle.page_layers.specs.FieldForms.{Form, Field, Held, Row, Maker}
use Rattle.serde_json.specs.Data.{Data, Members, put}
use Rattle.script_fields.specs.declared.fault.FieldFault.{FieldFault}
use Rattle.script_fields.specs.Faults.{◌>>=◌}
use Rattle.script_fields.specs.Fields.{whole_at, signed_at, rect_at, colour_at, if_no_more}
use Rattle.script_fields.specs.Values.{number_data, int_data, rect_data, colour_data, bytes_data}
use Rattle.script_json.specs.ItemReading.{paint_at}

-- the value of a field of an object; one that is absent or not of its form is a fault of this number. What is painted in an item has a number of its own
abbrev pub value_at : (f : Form) → List ℕ → ℕ → Data → Result (Held f) FieldFault
value_at form.whole key number d = whole_at key number d
value_at form.signed key number d = signed_at key number d
value_at form.rect key number d = rect_at key number d
value_at form.colour key number d = colour_at key number d
value_at form.item key number d = rect_at key number d >>= λ r. paint_at r (number + 1) d

-- how many numbers a field has
abbrev pub numbers : Form → ℕ
numbers form.item = 2
numbers _ = 1

-- what is made of the fields of an object, which are numbered from `number` on, if it has no further ones
abbrev pub made_at : {A : Type 0} (fs : List Field) → Maker A fs → ℕ → Data → Result A FieldFault
made_at [] make number d = if_no_more number d make
made_at (f ∷ fs) make number d = value_at f.form f.name number d >>= λ v. made_at fs (make v) (number + numbers f.form) d

-- ---- printing

-- the JSON value of a field
abbrev pub data_of : (f : Form) → Held f → Data
data_of form.whole n = number_data n
data_of form.signed z = int_data z
data_of form.rect r = rect_data r
data_of form.colour c = colour_data c
data_of form.item i = rect_data (rect_of_item i)

-- the member that tells what is painted in an item
abbrev pub put_painted : Item → Members → Members
put_painted (kind.Rect r c) ms = put (codes "colour") (colour_data c) ms
put_painted (kind.Bitmap picture) ms = put (codes "pixels") (bytes_data picture.pixels) ms

-- the member that a field has beside the one of its name
abbrev pub put_paint : (f : Form) → Held f → Members → Members
put_paint form.item i ms = put_painted i ms
put_paint form.whole v ms = ms
put_paint form.signed v ms = ms
put_paint form.rect v ms = ms
put_paint form.colour v ms = ms

-- these members with those of the values, in the order of their names
abbrev pub with_members : (fs : List Field) → Row fs → Members → Members
with_members [] row ms = ms
with_members (f ∷ fs) row ms = put f.name (data_of f.form row.0) (put_paint f.form row.0 (with_members fs row.1 ms))
