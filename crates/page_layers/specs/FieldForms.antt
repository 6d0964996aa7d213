-- The forms of a command's fields, and lists of fields.
use Rattle.std.specs.Prelude.{ℕ, ℤ, List, [], ◌∷◌, ⊤}
use Rattle.geom.specs.declared.rect.Rect.{Rect}
use Rattle.pixel.specs.Colours.{Parts}
use Rattle.page_display_list.specs.declared.item.Item.{Item}

-- a number of 32 bits, one with a sign, a rect, a colour, and an item: its rect, and what is painted in it
pub data Form : Type 0 where
  whole signed rect colour item : Form

-- a field: its name and its form; what a field of a form holds
pub record Field : Type 0 where
  pub name : List ℕ
  pub form : Form

abbrev pub Held : Form → Type 0
Held whole = ℕ
Held signed = ℤ
Held rect = Rect
Held colour = Parts
Held item = Item

-- the values of fields, one after another
abbrev pub Row : List Field → Type 0
Row [] = ⊤
Row (f ∷ fs) = Held f.form × Row fs

-- a function of the values of fields, one after another
abbrev pub Maker : Type 0 → List Field → Type 0
Maker A [] = A
Maker A (f ∷ fs) = Held f.form → Maker A fs

-- what it makes of these
abbrev pub made : {A : Type 0} (fs : List Field) → Maker A fs → Row fs → A
made [] make row = make
made (f ∷ fs) make row = made fs (make row.0) row.1
