-- Why numbers mean no command.
use Rattle.std.specs.Prelude.{ℕ, ◌+◌, ◌==◌, ℤ, pos, int_lt, Bool, true, false, ◌&&◌, cond, Option, Some, None, List, [], ◌∷◌, ◌++◌, length}
use Rattle.page_layers.specs.declared.command.Op.{Op}
use Rattle.page_layers.specs.declared.command.Op.TheVariants as named
use Rattle.page_layers.specs.FieldForms as form
use Rattle.page_layers.specs.FieldForms.{Form, Field}
use Rattle.page_layers.specs.CommandFields.{fields, op_numbered}
use Rattle.cc_c.specs.declared.bad_numbers.BadNumbers.{BadNumbers}
use Rattle.cc_c.specs.declared.bad_numbers.BadNumbers.TheVariants as cause

-- of each number of a field, whether it may not be below 0
abbrev pub wholes : Form → List Bool
wholes form.whole = true ∷ []
wholes form.signed = false ∷ []
wholes form.rect = false ∷ false ∷ false ∷ false ∷ []
wholes form.colour = []
wholes form.item = false ∷ false ∷ false ∷ false ∷ []

-- of each number of some fields
abbrev pub wholes_in : List Field → List Bool
wholes_in [] = []
wholes_in (f ∷ fs) = wholes f.form ++ wholes_in fs

abbrev pub wholes_of : Op → List Bool
wholes_of o = wholes_in (fields o)

-- a number is below 0, though it may not be
unfoldable pub is_below : Bool → ℤ → Bool
is_below whole n = whole && int_lt n (pos 0)

-- the first of some numbers, whose places count from one on, that is below 0 though it may not be
abbrev pub first_below : ℕ → List Bool → List ℤ → Option BadNumbers
first_below at [] numbers = None
first_below at (w ∷ ws) [] = None
first_below at (w ∷ ws) (n ∷ ns) = cond (is_below w n) (Some (cause.BelowZero at n)) (first_below (at + 1) ws ns)

-- a number that is below 0, or else the colour
abbrev pub or_colour : Option BadNumbers → BadNumbers
or_colour None = cause.Colour
or_colour (Some c) = c

-- what is wrong with numbers and a colour: how many there are, else the first that is below 0, else the colour
abbrev pub numbers_cause : List Bool → List ℤ → BadNumbers
numbers_cause ws ns = cond (length ns == length ws) (or_colour (first_below 0 ws ns)) (cause.Count (length ns) (length ws))

-- the same for the fields of a command, if there is one
abbrev pub cause_for : ℕ → Option Op → List ℤ → BadNumbers
cause_for op None ns = cause.NoCommand op
cause_for op (Some o) ns = numbers_cause (wholes_of o) ns

-- what is wrong with the number of a command, its fields and its colour
abbrev pub plain_cause : ℕ → List ℤ → BadNumbers
plain_cause op ns = cause_for op (op_numbered op) ns

-- what is wrong with numbers that name no place of an item
abbrev pub place_cause : List ℤ → BadNumbers
place_cause ns = numbers_cause (wholes_of named.InsertItem) ns
