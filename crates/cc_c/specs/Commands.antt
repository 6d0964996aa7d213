-- Commands as C hands them over: a number, a list of fields, and a colour.
use Rattle.std.specs.Prelude.{ℕ, ◌+◌, ◌/◌, ◌%◌, ◌==◌, ◌||◌, ℤ, pos, negsuc, Bool, cond, Option, Some, None, List, [], ◌∷◌, length, slice_get, ⊤}
use Rattle.geom.specs.declared.rect.Rect.{Rect}
use Rattle.pixel.specs.Colours.{Parts, is_colour}
use Rattle.page_display_list.specs.declared.item.Item.{Item}
use Rattle.page_display_list.specs.declared.item.Item.TheVariants as kind
use Rattle.page_layers.specs.declared.command.Command.{Command}
use Rattle.page_layers.specs.declared.command.Op.{Op}
use Rattle.page_layers.specs.FieldForms as form
use Rattle.page_layers.specs.FieldForms.{Form, Field, Held, Maker}
use Rattle.page_layers.specs.CommandFields.{fields, make, op_numbered}
use Rattle.cc_c.specs.declared.items.ItemPlace.{ItemPlace}

infixl 10 ◌>>=◌
abbrev pub ◌>>=◌ : {A B : Type 0} → Option A → (A → Option B) → Option B
None >>= f = None
(Some x) >>= f = f x

-- a number that is not below 0
abbrev pub natural : ℤ → Option ℕ
natural (pos n) = Some n
natural (negsuc n) = None

-- the four bytes of a number, the highest first, as red, green, blue and alpha
abbrev pub parts_of_number : ℕ → Parts
parts_of_number rgba = record { r = rgba / 16777216; g = (rgba / 65536) % 256; b = (rgba / 256) % 256; a = rgba % 256 }

-- the premultiplied colour of a number; None if red, green or blue exceeds alpha
abbrev pub colour_of : ℕ → Option Parts
colour_of rgba = cond (is_colour (parts_of_number rgba)) (Some (parts_of_number rgba)) None

-- the number at a place, if it is not below 0
unfoldable pub whole_at : ℕ → List ℤ → Option ℕ
whole_at at numbers = slice_get numbers at >>= natural

-- x, y, w and h from a place on
unfoldable pub rect_at : ℕ → List ℤ → Option Rect
rect_at at numbers = do
  x ← slice_get numbers at
  y ← slice_get numbers (at + 1)
  w ← slice_get numbers (at + 2)
  h ← slice_get numbers (at + 3)
  Some (record { x = x; y = y; w = w; h = h })

-- whether there are just as many numbers
unfoldable pub no_more : ℕ → List ℤ → Option ⊤
no_more count numbers = cond (length numbers == count) (Some tt) None

-- how many numbers a field takes: a rect four, an item those of its rect, a colour none, since it comes apart from them
abbrev pub width : Form → ℕ
width form.whole = 1
width form.signed = 1
width form.rect = 4
width form.colour = 0
width form.item = 4

-- an item of one colour
abbrev pub coloured : Rect → Parts → Option Item
coloured r c = Some (kind.Rect r c)

-- the value of a field whose numbers stand from a place on; an item has one colour
abbrev pub value_at : (f : Form) → ℕ → List ℤ → ℕ → Option (Held f)
value_at form.whole at numbers rgba = whole_at at numbers
value_at form.signed at numbers rgba = slice_get numbers at
value_at form.rect at numbers rgba = rect_at at numbers
value_at form.colour at numbers rgba = colour_of rgba
value_at form.item at numbers rgba = rect_at at numbers >>= λ r. colour_of rgba >>= coloured r

-- what is made of the fields whose numbers stand from a place on, if there are no further ones
abbrev pub made_at : {A : Type 0} (fs : List Field) → Maker A fs → ℕ → List ℤ → ℕ → Option A
made_at [] make at numbers rgba = no_more at numbers >>= λ u. Some make
made_at (f ∷ fs) make at numbers rgba = value_at f.form at numbers rgba >>= λ v. made_at fs (make v) (at + width f.form) numbers rgba

-- the command of its fields, in their order; None if they are too few, too many, or below 0 though they may not be, or the colour is not premultiplied
unfoldable pub fields_of : Op → List ℤ → ℕ → Option Command
fields_of o numbers rgba = made_at (fields o) (make o) 0 numbers rgba

-- the command of a number; None also if no command has it
unfoldable pub plain_command : ℕ → List ℤ → ℕ → Option Command
plain_command op numbers rgba = op_numbered op >>= λ o. fields_of o numbers rgba

-- 20 and 21 put a bitmap, which takes pixels
abbrev pub takes_pixels : ℕ → Bool
takes_pixels op = (op == 20) || (op == 21)

-- layer, at, and the rect
unfoldable pub item_place : List ℤ → Option ItemPlace
item_place numbers = do
  layer ← whole_at 0 numbers
  at ← whole_at 1 numbers
  rect ← rect_at 2 numbers
  _ ← no_more 6 numbers
  Some (record { layer = layer; at = at; rect = rect })
