-- The place of a fault within a script.
use Rattle.std.specs.Prelude.{◌≡◌, ℕ, List, ◌∷◌, Result, Ok, Err, ⊤}
use Rattle.script_fields.specs.declared.fault.FieldFault.{FieldFault}
use Rattle.script_json.specs.declared.fault.ShapeFault.{ShapeFault}
use Rattle.script_json.specs.declared.fault.Stop.{Stop}
use Rattle.script_json.specs.declared.fault.Stop.TheVariants as stop

-- what was read of an element of a list, with the fault's place
abbrev pub placed : {A : Type 0} → ℕ → ℕ → Result A FieldFault → Result A ShapeFault
placed list index (Ok x) = Ok x
placed list index (Err e) = Err (record { list = list; index = index; field = e.field })

-- the first element before the others, or the first fault
abbrev pub before_rest : {A : Type 0} → Result A ShapeFault → Result (List A) ShapeFault → Result (List A) ShapeFault
before_rest (Err e) rest = Err e
before_rest (Ok x) (Ok xs) = Ok (x ∷ xs)
before_rest (Ok x) (Err e) = Err e

-- what a reader that takes memory tells of a part of a script that has this reading
abbrev pub GivesPart : {X Y : Type 0} → (X → Y) → Result X Stop → Result Y ShapeFault → Type 0
GivesPart view (Ok x) reading = reading ≡ Ok (view x)
GivesPart view (Err (stop.Fault f)) reading = reading ≡ Err f
GivesPart view (Err (stop.Memory e)) reading = ⊤
